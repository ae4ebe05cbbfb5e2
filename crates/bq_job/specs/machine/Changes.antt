-- Operations for reading and changing parts of the model.
use Rattle.std.specs.Prelude.{ℕ, Bool, true, false, ◌&&◌, ◌||◌, ◌==◌, nat_lt, if◌then◌else◌, List}
use Rattle.std.specs.Prelude.{Option, Some, None, is_some, map, fold, find}
use Rattle.bq_job.specs.{machine.Machine.{Machine, SeatRecord}, Types.{Job, JobState}}
use Rattle.bq_job.specs.declared.job.JobState.TheVariants as states

-- of two that pass the test, the one that comes before the other
abbrev pub better_of : {A : Type 0} → (A → Bool) → (A → A → Bool) → Option A → A → Option A
better_of passes before None x = if passes x then Some x else None
better_of passes before (Some best) x = if passes x && before x best then Some x else Some best

-- the first, in this order, of those that pass the test
abbrev pub first_of : {A : Type 0} → (A → Bool) → (A → A → Bool) → List A → Option A
first_of passes before xs = fold (better_of passes before) None xs

-- by the first number, and if they are equal by the second
abbrev pub is_pair_before : ℕ → ℕ → ℕ → ℕ → Bool
is_pair_before a i b j = nat_lt a b || (a == b && nat_lt i j)

abbrev pub is_waiting : SeatRecord → Bool
is_waiting s = is_some s.wait

abbrev pub job_with : ℕ → List Job → Option Job
job_with id jobs = find (λ j. j.id == id) jobs

abbrev pub seat_with : ℕ → List SeatRecord → Option SeatRecord
seat_with number seats = find (λ s. s.number == number) seats

-- the job of this id is changed by f, and no other is
abbrev pub with_job : ℕ → (Job → Job) → Machine → Machine
with_job id f m = record m { jobs = map (λ j. if j.id == id then f j else j) m.jobs }

-- the seat of this number is changed by f, and no other is
abbrev pub with_seat : ℕ → (SeatRecord → SeatRecord) → Machine → Machine
with_seat number f m = record m { seats = map (λ s. if s.number == number then f s else s) m.seats }

abbrev pub without_wait : SeatRecord → SeatRecord
without_wait s = record s { wait = None }

abbrev pub is_ready_state : JobState → Bool
is_ready_state states.Ready = true
is_ready_state _ = false

abbrev pub is_ready : Job → Bool
is_ready j = is_ready_state j.state

abbrev pub is_holder : ℕ → JobState → Bool
is_holder seat (states.Reserved holder deadline) = holder == seat
is_holder seat _ = false

-- whether the client at the seat holds the job
abbrev pub is_held_by : ℕ → Job → Bool
is_held_by seat j = is_holder seat j.state

abbrev pub in_state : JobState → Job → Job
in_state state j = record j { state = state }

-- the job after the client at the seat has disconnected: in this state if that client held it
abbrev pub given_back : JobState → ℕ → Job → Job
given_back state seat j = if is_held_by seat j then in_state state j else j
