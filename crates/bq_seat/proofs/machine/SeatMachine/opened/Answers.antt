use Rattle.bq_seat.proofs.MoveLemmas.{opens}
use Rattle.bq_seat.proofs.machine.SeatMachine.opened.Goals as goal

pub returns-in-Between : goal.returns-in-Between
returns-in-Between c = search opens
