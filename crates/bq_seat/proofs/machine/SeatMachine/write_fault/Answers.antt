use Rattle.std.proofs.Common.{refl}
use Rattle.bq_job.proofs.ReadsLemmas.{reading-Reads}
use Rattle.bq_seat.proofs.MoveLemmas.{turn}
use Rattle.bq_seat.proofs.OpenLemmas.{write_fails}
use Rattle.bq_seat.proofs.machine.SeatMachine.write_fault.Goals as goal

-- the unsubmitted rest of the text has a reading too
pub returns-in-Writing : goal.returns-in-Writing
returns-in-Writing c = turn c.in-Writing.is c.close.ensures.action c.close.ensures.after (refl, refl, refl, tt, tt)
    (λ p h. write_fails h.0 refl h.1 (λ text. (_, _, reading-Reads _ text))) (λ p h. refl)
