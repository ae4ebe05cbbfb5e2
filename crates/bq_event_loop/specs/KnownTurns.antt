-- The seats that turns let act, and what holds when they are asked.
use Rattle.std.specs.Prelude.{ℕ, List}
use Rattle.bq_job.specs.declared.answer.Answer.{Answer}
use Rattle.bq_line.specs.declared.attendant.Attendant.{Attendant}
use Rattle.bq_event_loop.specs.Known.{AreKnown}
use Rattle.bq_event_loop.specs.Meanings.{Core, Line}
use Rattle.bq_event_loop.specs.Sleeping.{IsAtTurn}
use Rattle.bq_event_loop.specs.declared.turns.News.{News}
use Rattle.bq_event_loop.specs.declared.turns.SoFar.{SoFar}
use Rattle.bq_event_loop.specs.declared.turns.Turns.{Ghosts as Turns}

-- No seat is forgotten by these turns.
abbrev pub AreKnownBy : {L T : Type 0} → Line L → Turns T → T → List ℕ → List (Attendant L) → List (List Answer) → Type 0
AreKnownBy l t turns woken seats mails = AreKnown l (t.seats turns) (t.listed turns) (t.tries turns) woken seats mails

-- What holds between two turns, after this news.
abbrev pub IsAtTurnOf : {L D C I K T : Type 0} → Line L → Core K → Turns T → T → List (Attendant L) → List (List Answer) → News
    → SoFar L D C I K → Type 0
IsAtTurnOf l k t turns seats mails news so_far =
    IsAtTurn l k (t.seats turns) (t.listed turns) (t.tries turns) seats mails news.due news.control so_far.whole_core.value
    so_far.whole_control.value
