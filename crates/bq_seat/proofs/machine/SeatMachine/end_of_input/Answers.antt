use Rattle.std.proofs.Common.{refl, true}
use Rattle.bq_seat.proofs.NextByPastLemmas.{answered_all, one_unanswered}
use Rattle.bq_seat.proofs.MoveLemmas.{turn}
use Rattle.bq_seat.proofs.OpenLemmas.{ends_line, tells_end}
use Rattle.bq_seat.proofs.machine.SeatMachine.end_of_input.Goals as goal

pub returns-in-Reading : goal.returns-in-Reading
returns-in-Reading c = turn c.in-Reading.is c.close.ensures.action c.close.ensures.after (refl, refl, refl, tt, tt)
    (λ p h. ends_line h.0 true refl h.1 refl) (λ p h. rw (answered_all h.0) refl)

pub returns-in-ReadingOn : goal.returns-in-ReadingOn
returns-in-ReadingOn c = turn c.in-ReadingOn.is c.submit.ensures refl (refl, refl, refl, tt, tt)
    (λ p h. (tells_end h.0 h.1 h.2, refl)) (λ p h. rw (one_unanswered h.0.0) refl)
