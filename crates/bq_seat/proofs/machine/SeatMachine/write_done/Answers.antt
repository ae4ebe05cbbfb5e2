use Rattle.std.proofs.Common.{refl}
use Rattle.bq_seat.proofs.MoveLemmas.{goes_on}
use Rattle.bq_seat.proofs.machine.SeatMachine.write_done.Goals as goal

pub returns-in-Writing : goal.returns-in-Writing
returns-in-Writing c = goes_on c.args.self.now c.in-Writing.is refl tt refl (λ p h. h.0) (λ p h. c.go_on.ensures.further) c.go_on.ensures
