use Rattle.std.proofs.Common.{refl}
use Rattle.bq_seat.proofs.NextByPastLemmas.{behind_close, behind_end, behind_quit, behind_request}
use Rattle.bq_seat.proofs.MoveLemmas.{goes_on, turn}
use Rattle.bq_seat.proofs.machine.SeatMachine.submitted.Goals as goal

pub returns-in-Connecting : goal.returns-in-Connecting
returns-in-Connecting c = goes_on c.args.self.now c.in-Connecting.is refl tt refl (λ p h. h.0)
    (λ p h. rw h.2 c.go_on.ensures.further) c.go_on.ensures

pub returns-in-Asking : goal.returns-in-Asking
returns-in-Asking c = turn c.in-Asking.is c.poll.ensures.action c.poll.ensures.after (refl, refl, refl, tt, tt)
    (λ p h. h.0) (λ p h. behind_request h.0.0 h.1)

pub returns-in-TellingEnd : goal.returns-in-TellingEnd
returns-in-TellingEnd c = turn c.in-TellingEnd.is c.poll-in-TellingEnd.ensures.action c.poll-in-TellingEnd.ensures.after
    (refl, refl, refl, tt, tt) (λ p h. h.0) (λ p h. behind_end h.0.0 h.1)

pub returns-in-AskingQuit : goal.returns-in-AskingQuit
returns-in-AskingQuit c = turn c.in-AskingQuit.is c.close.ensures.action c.close.ensures.after (refl, refl, refl, tt, tt)
    (λ p h. h.1) (λ p h. behind_quit p h.2)

pub returns-in-Closing : goal.returns-in-Closing
returns-in-Closing c = search (turn, behind_close)
