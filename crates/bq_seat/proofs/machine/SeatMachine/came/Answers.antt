use Rattle.std.proofs.Common.{refl}
use Rattle.bq_seat.specs.SeatParts.{holding}
use Rattle.bq_seat.proofs.NextByPastLemmas.{answered_all, one_unanswered}
use Rattle.bq_seat.proofs.MoveLemmas.{goes_on, turn}
use Rattle.bq_seat.proofs.OpenLemmas.{handed_in, handed_in_waiting}
use Rattle.bq_seat.proofs.machine.SeatMachine.came.Goals as goal

pub returns-in-Reading : goal.returns-in-Reading
returns-in-Reading c = goes_on (holding c.args.bytes.now c.args.self.now) c.in-Reading.is refl tt refl
    (λ p h. handed_in c.args.bytes.now h.0 h.1 h.2) (λ p h. rw (answered_all h.0) c.take_in.ensures.further) c.take_in.ensures

pub returns-in-ReadingOn : goal.returns-in-ReadingOn
returns-in-ReadingOn c = turn c.in-ReadingOn.is c.keep.ensures.action c.keep.ensures.after (refl, refl, refl, tt, tt)
    (λ p h. handed_in_waiting c.args.bytes.now h.0 h.1 h.2) (λ p h. rw (one_unanswered h.0.0) refl)
