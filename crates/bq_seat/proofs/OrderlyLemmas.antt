-- What holds of each past that a machine represents.
use Rattle.bq_seat.specs.Past.{IsOrderly, Past}
use Rattle.bq_seat.specs.SeatStands.{StandsFor}
use Rattle.bq_seat.specs.declared.machine.SeatMachine.{SeatMachine}

pub orderly : (machine : SeatMachine) (p : Past) → StandsFor machine p → IsOrderly p
unfolding StandsFor
orderly machine p h = h.1
