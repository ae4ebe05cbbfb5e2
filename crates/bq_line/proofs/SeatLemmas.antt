-- A seat's record continues with each action, whatever its link is.
use Rattle.std.proofs.Common.{◌≡◌, ℕ, List, [], ◌∷◌, ◌++◌, Option, None}
use Rattle.std.proofs.Common.{append-nil, append_assoc, arith}
use Rattle.std.proofs.lemmas.Grind.{common_steps}
use Rattle.bq_job.specs.declared.answer.Answer.{Answer}
use Rattle.bq_job.specs.declared.line_end.LineEnd.{LineEnd}
use Rattle.bq_job.specs.declared.line_end.LineFault.{LineFault}
use Rattle.bq_job.specs.declared.step.Step.{Step}
use Rattle.bq_job.specs.declared.step.Step.TheVariants as steps
use Rattle.bq_job.specs.texts.AnswerText.{answer_text}
use Rattle.bq_job.specs.promise.LineSteps.{LineSeen, answers_text}
use Rattle.bq_job.specs.beside.SeatDid.{IsLineServed}
use Rattle.bq_seat.specs.InTurn.{IsInTurn}
use Rattle.bq_seat.specs.Past.{Awaited}
use Rattle.bq_seat.specs.SeatMoves.{IsMove}
use Rattle.bq_seat.specs.SeatStands.{awaited}
use Rattle.bq_seat.specs.declared.machine.Action.{Action}
use Rattle.bq_seat.specs.declared.machine.Action.TheVariants as actions
use Rattle.bq_seat.specs.declared.machine.Event.TheVariants as events
use Rattle.bq_seat.specs.declared.machine.SeatMachine.{SeatMachine}
use Rattle.bq_line.specs.Attending.{IsOnLine, IsWrittenSo}
use Rattle.bq_line.specs.Carried.{Carried}
use Rattle.bq_line.specs.Links.{as_submitted}
use Rattle.bq_line.specs.declared.attendant.Progress.{Progress}
use Rattle.bq_line.specs.LineCalls.{new_line}
use Rattle.bq_line.specs.Writing.{BreaksOff, with_written}
use Rattle.bq_seat.proofs.OrderlyLemmas.{orderly}

-- without a fault everything was written
pub unbroken : (fault : Option LineFault) (handed : List Answer) (written : List ℕ) → fault ≡ None → IsWrittenSo fault handed written
    → written ≡ answers_text handed
unbroken fault handed written e h = grind arith

module _ {size : ℕ} {old new : SeatMachine} {seen later : LineSeen} {next : Action} {before : List Step} {got : List Answer} where
  -- the whole answer was written
  wrote_on : {answer : Answer} → later ≡ with_written (answer_text answer) seen → IsMove old events.WriteDone next new
      → IsOnLine size old seen (actions.Write answer) before got → IsOnLine size new later next before got
  wrote_on {answer = answer} told move s = grind (arith, common_steps)

  -- the writing of an answer was cut off
  broke_on : {answer : Answer} → BreaksOff (answer_text answer) seen later → IsMove old events.WriteFault next new
      → IsOnLine size old seen (actions.Write answer) before got → IsOnLine size new later next before got
  broke_on {answer = answer} broke move s = grind arith

-- A connection that has ended was served.
pub line_served : (size : ℕ) (machine : SeatMachine) (seen : LineSeen) (end : LineEnd) (submitted : List Step) (taken : List Answer)
    → IsOnLine size machine seen (actions.LineOver end) submitted taken
    → IsLineServed size (record { seen = seen; over = end }) submitted taken
line_served size machine seen end submitted taken s =
    let p = s.past in
    let over = s.found s.written in
    let served = over.to_close in
    let writes = rw served.handed_out at s.writes in
    rw (s.seen_is, ← s.submitted_is) (record {
      own = p.mail;
      others = over.late.others;
      line_owed = record { steps = served.line; answered = served.answered; written = grind arith };
      none_unwritten = grind arith;
      taken_is = grind arith;
      none_closed = over.late.none_closed;
    })

-- A step in its turn counts: it is not a tick.
turn_counts : (step : Step) (taken : List Step) (mail : List Answer) → IsInTurn step taken mail → as_submitted step ≡ step ∷ []
turn_counts step taken mail h = grind arith

-- The connection continues with each action that was carried out.
pub carried_on : (result : Progress) (size : ℕ) (old new : SeatMachine) (seen later : LineSeen) (action next : Action)
    (submitted more : List Step) (taken got : List Answer)
    → Carried result old seen action new later next more got → IsOnLine size old seen action submitted taken
    → IsOnLine size new later next (submitted ++ more) (taken ++ got)
carried_on result size old new seen later (actions.Submit step) next submitted more taken got h s = grind (arith, turn_counts, append-nil)
carried_on result size old new seen later actions.PollMail next submitted more taken got h s =
    grind (arith, orderly, append_assoc, append-nil)
carried_on result size old new seen later (actions.Write answer) next submitted more taken got h s =
    grind (arith, wrote_on, broke_on, append-nil)
carried_on result size old new seen later _ next submitted more taken got h s = grind (arith, append-nil)

-- An unused connection is opened.
pub opened_on : (size : ℕ) (old new : SeatMachine) (action : Action) (seen : LineSeen) → awaited old ≡ Awaited.ALine
    → old.reader.max_job_size ≡ size → IsMove old events.Opened action new → seen ≡ new_line → IsOnLine size new seen action [] []
opened_on size old new action seen waits same move fresh = grind arith
