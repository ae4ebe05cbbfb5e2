-- Which clients wait while they hold a job: they get DEADLINE_SOON when its time to run ends soon.
use Rattle.std.specs.List.{AllByRecursion, list_any}
use Rattle.std.specs.Prelude.{◌&&◌, ◌==◌, ◌||◌, ◌≡◌, if◌then◌else◌, Bool, List, Option, ℕ, false, not, true}
use Rattle.bq_job.specs.{declared.job.{Job.Job, JobState.JobState}, machine.{SeatRecord, is_held_by, is_waiting, seat_with}}
use Rattle.bq_job.specs.declared.job.JobState.TheVariants as states
use Rattle.bq_state.specs.SeatStates.{seat_passes}
use Rattle.bq_state.specs.declared.known.warns.Warns.{Warns, TheVariants.{Any, Client, Nothing}}
use Rattle.bq_state.specs.declared.seats.SeatChange.{SeatChange, TheVariants.{Clear, StopWaiting, Wait}}

-- the client at this seat may hold a job while it waits
abbrev pub may_warn : Warns → ℕ → Bool
may_warn Nothing seat = false
may_warn (Client holder) seat = seat == holder
may_warn Any seat = true

-- also the client at this seat
abbrev pub with_holder : ℕ → Warns → Warns
with_holder seat Nothing = Client seat
with_holder seat (Client holder) = if holder == seat then Client seat else Any
with_holder seat Any = Any

-- also the holder of a job in this state
abbrev pub with_holder_of : JobState → Warns → Warns
with_holder_of (states.Reserved seat deadline) warns = with_holder seat warns
with_holder_of _ warns = warns

-- without the client at this seat
abbrev pub without_holder : ℕ → Warns → Warns
without_holder seat Nothing = Nothing
without_holder seat (Client holder) = if holder == seat then Nothing else Client holder
without_holder seat Any = Any

-- Of the changes of a seat, two end a wait.
abbrev pub warned_by_seat : ℕ → SeatChange → Warns → Warns
warned_by_seat seat StopWaiting warns = without_holder seat warns
warned_by_seat seat Clear warns = without_holder seat warns
warned_by_seat seat _ warns = warns

-- If no client is due to get DEADLINE_SOON, none holds a job.
abbrev pub warned_if_due : Bool → Warns → Warns
warned_if_due true warns = warns
warned_if_due false warns = Nothing

-- there is a client at the seat, and it waits
abbrev pub is_waiting_there : Option SeatRecord → Bool
is_waiting_there = seat_passes is_waiting

-- the holder of a job in this state waits
abbrev pub has_waiting_holder : JobState → List SeatRecord → Bool
has_waiting_holder (states.Reserved seat deadline) seats = is_waiting_there (seat_with seat seats)
has_waiting_holder _ seats = false

-- the client waits, and holds the job
abbrev pub holds_in_wait : Job → SeatRecord → Bool
holds_in_wait j s = is_waiting s && is_held_by s.number j

abbrev pub IsWarned : Warns → Job → SeatRecord → Type 0
IsWarned warns j s = holds_in_wait j s ≡ true → may_warn warns s.number ≡ true

-- If a client holds a job while it waits, that is known.
abbrev pub AreWarned : Warns → List Job → List SeatRecord → Type 0
AreWarned warns jobs seats = AllByRecursion (λ j. AllByRecursion (IsWarned warns j) seats) jobs

-- it is known whether a client that begins to wait holds a job
abbrev pub may_hold : SeatChange → ℕ → Warns → List Job → Bool
may_hold (Wait ticket until) seat warns jobs = may_warn warns seat || not (list_any (is_held_by seat) jobs)
may_hold _ seat warns jobs = true
