use Rattle.std.proofs.Common.{refl}
use Rattle.bq_seat.proofs.NextByPastLemmas.{answered_all, one_unanswered}
use Rattle.bq_seat.proofs.MoveLemmas.{nothing_in_polling, stays, turn}
use Rattle.bq_seat.proofs.machine.SeatMachine.nothing_yet.Goals as goal

pub returns-in-Reading : goal.returns-in-Reading
returns-in-Reading c = turn c.in-Reading.is c.set.ensures (stays c.in-Reading.is refl) (refl, refl, refl, tt, tt) (λ p h. h)
    (λ p h. rw (answered_all h.0) refl)

pub returns-in-ReadingOn : goal.returns-in-ReadingOn
returns-in-ReadingOn c = turn c.in-ReadingOn.is c.poll.ensures.action c.poll.ensures.after (refl, refl, refl, tt, tt)
    (λ p h. h.0) (λ p h. rw (one_unanswered h.0.0) refl)

pub returns-in-Polling : goal.returns-in-Polling
returns-in-Polling c = search nothing_in_polling

pub returns-in-Leaving : goal.returns-in-Leaving
returns-in-Leaving c = turn c.in-Leaving.is c.set-in-Leaving.ensures (stays c.in-Leaving.is refl) (refl, refl, refl, tt, tt) (λ p h. h)
    (λ p h. rw h.closing_is refl)
