-- The promise about a run that has not ended: one history so far, and the bytes that each client has
-- received along it.
use Rattle.std.specs.Prelude.{ℕ, suc, Bool, true, false, ◌≡◌, ◌⊎◌, ◌≤◌, ◌++◌, ◌∷◌, IsTrue, List, []}
use Rattle.std.specs.Prelude.{length, map, Option, Some, None, is_some}
use Rattle.std.specs.List.{list_any}
use Rattle.bq_job.specs.machine.{GivenAnswer, Settings, Machine.Machine}
use Rattle.bq_job.specs.declared.step.Step.TheVariants as steps
use Rattle.bq_job.specs.promise.{ControlDid.IsControlDone, CoreDid.IsRun, Headline.AreSeatsUpTo, History.{LineOver, steps_at}}
use Rattle.bq_job.specs.promise.LineOwed.{AreLinesOwed}
use Rattle.bq_job.specs.promise.LineSteps.{IsBeginning, LineHeard, LineSeen, MayTellEnd, answers_text, heard}
use Rattle.bq_job.specs.{promise.Runs.{Entry, answers_to}, reading.Reading.Reads, Types.{Answer, Request, Step}}

-- a door: its connections that have ended, the connection that its seat serves, if there is one,
-- and whether a connection was opened there that has not ended
pub record DoorSoFar : Type 0 where
  pub over : List LineOver
  pub out : Option LineSeen
  pub is_out : Bool

-- The steps of an open connection are a beginning of those of a connection that ends now: it
-- connects, submits the requests in a first part of the bytes that it has read, in order, and is
-- closed.
pub record IsStepsSoFar (max_job_size : ℕ) (line : LineHeard) (taken : List Step) : Type 0 where
  pub first : List ℕ
  pub rest : List ℕ
  pub asked : List Request
  pub end_steps : List Step
  pub more : List Step
  pub read_is : line.read ≡ first ++ rest
  pub reads : Reads max_job_size first asked []
  pub ends : MayTellEnd line asked end_steps
  pub begins : steps.Connect ∷ [] ++ map steps.Ask asked ++ end_steps ++ steps.Close ∷ [] ≡ taken ++ more

-- An open connection. These are its steps so far, and its client has received a beginning of these
-- answers.
pub record IsLineOwedSoFar (max_job_size : ℕ) (line : LineSeen) (taken : List Step) (answers : List Answer) : Type 0 where
  pub of_steps : IsStepsSoFar max_job_size (heard line) taken
  pub written : IsBeginning line.written (answers_text answers)

-- The steps of the connection that a seat serves. If it serves none, it has submitted nothing since
-- the last connection, except perhaps that no more connections come.
abbrev pub IsOutOwed : ℕ → Option LineSeen → List Step → List Answer → Type 0
IsOutOwed max_job_size None taken answers = (taken ≡ []) ⊎ (taken ≡ steps.Gone ∷ [])
IsOutOwed max_job_size (Some line) taken answers = IsLineOwedSoFar max_job_size line taken answers

-- A door. The steps at its seat are those of its connections, in the order in which they ended, and
-- then those of the open connection. Each connection that has ended is owed what its client
-- received, as in the final promise. The answers after theirs are for the open connection. A
-- connection that was opened and has not ended is at the seat.
pub record IsDoorOwedSoFar (max_job_size : ℕ) (door : DoorSoFar) (taken : List Step) (answers : List Answer) : Type 0 where
  pub own : List Step
  pub current : List Step
  pub got : List Answer
  pub later : List Answer
  pub of_lines : AreLinesOwed max_job_size door.over own got
  pub of_out : IsOutOwed max_job_size door.out current later
  pub taken_is : taken ≡ own ++ current
  pub answers_are : answers ≡ got ++ later
  pub held : door.is_out ≡ is_some door.out

-- the doors of the seats from this one on
abbrev pub AreDoorsOwedSoFar : ℕ → ℕ → List DoorSoFar → List Entry → List GivenAnswer → Type 0
AreDoorsOwedSoFar max_job_size seat [] history given = Unit {0}
AreDoorsOwedSoFar max_job_size seat (door ∷ doors) history given =
    IsDoorOwedSoFar max_job_size door (steps_at seat history) (answers_to seat given)
    × AreDoorsOwedSoFar max_job_size (suc seat) doors history given

-- The control line has submitted a beginning of what it requests if its text ends here.
abbrev pub IsControlSoFar : List ℕ → Bool → List Step → Type 0
IsControlSoFar text failed submitted = (rest : List Step) × IsControlDone text failed (submitted ++ rest)

-- One history contains all steps so far, each with a clock reading of its own. The model runs over
-- it from a new model to `last`. Each client whose connection has ended received exactly the bytes
-- that it is owed along this history. Each client whose connection is open received a beginning of
-- them.
pub record IsHistorySoFar (settings : Settings) (doors : List DoorSoFar) (control : List ℕ) (failed : Bool)
    (readings : List (Option ℕ)) (last : Machine) : Type 0 where
  pub history : List Entry
  pub given : List GivenAnswer
  pub run : IsRun settings readings history given last
  pub many : length doors ≡ settings.seats
  pub of_doors : AreDoorsOwedSoFar settings.max_job_size 0 doors history given
  pub of_control : IsControlSoFar control failed (steps_at settings.seats history)
  pub of_nobody_else : AreSeatsUpTo settings.seats history

abbrev pub is_gone : Step → Bool
is_gone steps.Gone = true
is_gone _ = false

-- Each seat up to this one has submitted that no more comes.
abbrev pub AreAllGone : ℕ → List Entry → Type 0
AreAllGone last history = (seat : ℕ) → seat ≤ last → IsTrue (list_any is_gone (steps_at seat history))
