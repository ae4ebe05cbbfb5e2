use Rattle.std.proofs.Common.{inl, inr, refl}
use Rattle.bq_seat.proofs.MoveLemmas.{turn}
use Rattle.bq_seat.proofs.OpenLemmas.{read_fails}
use Rattle.bq_seat.proofs.machine.SeatMachine.read_fault.Goals as goal

pub returns-in-Reading : goal.returns-in-Reading
returns-in-Reading c = turn c.in-Reading.is c.close.ensures.action c.close.ensures.after (refl, refl, refl, tt, tt)
    (λ p h. read_fails h.0 h.1 (inl refl)) (λ p h. refl)

pub returns-in-ReadingOn : goal.returns-in-ReadingOn
returns-in-ReadingOn c = turn c.in-ReadingOn.is c.close-in-ReadingOn.ensures.action c.close-in-ReadingOn.ensures.after
    (refl, refl, refl, tt, tt) (λ p h. read_fails h.0.0 h.1 (inr (refl, h.0.1))) (λ p h. refl)
