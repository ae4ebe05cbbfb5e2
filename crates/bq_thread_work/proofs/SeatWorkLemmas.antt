-- A seat at work at its end of the links.
use Rattle.std.proofs.Common.{ℕ, arith}
use Rattle.std.proofs.lemmas.Grind.{common_steps}
use Rattle.bq_job.specs.promise.LineSteps.{LineSeen}
use Rattle.bq_line.specs.Tending.{DoorSeen, GoesOn, IsTended}
use Rattle.bq_line.specs.declared.attendant.Attendant.{Attendant}
use Rattle.bq_link.specs.EndStates.{SeatState}
use Rattle.bq_thread_work.specs.Ends.{EndTrace}

-- what a seat did is what its end shows, and this does not change
pub tended_on : {L : Type 0} (seen : L → LineSeen) (size : ℕ) (old new : SeatState) (a b : Attendant L) (door next : DoorSeen)
    → GoesOn EndTrace old new seen a door b next → IsTended seen size a door old.submitted old.taken
    → IsTended seen size b next new.submitted new.taken
tended_on seen size old new a b door next h t = grind (arith, common_steps)
