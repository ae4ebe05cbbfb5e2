-- The waiters among the clients at given seats.
use Rattle.std.specs.Prelude.{List, ℕ, ◌≡◌}
use Rattle.bq_job.specs.machine.{SeatRecord}
use Rattle.bq_state.specs.{SeatChanges.AreNumbered, WaitingList.waiters_of}

-- The seats are numbered in order, and the waiters are the waiting clients.
pub record AreWaitersOf (waiters : List (ℕ × ℕ)) (seats : List SeatRecord) : Type 0 where
  pub numbered : AreNumbered seats
  pub waiters_are : waiters ≡ waiters_of seats
