use Rattle.std.proofs.Common.{refl}
use Rattle.bq_seat.proofs.MoveLemmas.{asks_and_takes}
use Rattle.bq_seat.proofs.machine.SeatMachine.answered.Goals as goal

pub returns : goal.returns
returns c = record { moved = λ answer lies. asks_and_takes c.args.self.now _ refl c.requires.asking answer _ lies }
