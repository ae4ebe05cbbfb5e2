-- One history of all clients' steps, and the bytes that each client receives along it.
use Rattle.std.specs.Prelude.{ℕ, suc, Bool, ◌≡◌, ◌==◌, IsTrue, nat_le, List, [], ◌∷◌, ◌++◌, length, Option}
use Rattle.std.specs.List.{list_all}
use Rattle.bq_job.specs.{declared.step.Step.TheVariants.Gone, machine.{GivenAnswer, Settings, Machine.Machine}}
use Rattle.bq_job.specs.promise.{ControlDid.IsControlDone, CoreDid.IsRun, History.{LineOver, steps_at, without_ticks}}
use Rattle.bq_job.specs.{promise.{LineOwed.AreLinesOwed, Runs.{Entry, answers_to}}, Types.{Answer, Step}}

-- A door that is done. The steps at its seat are those of its connections, in the order in which
-- they ended, and then one that says that no more come. Each connection is owed what its client
-- received.
pub record IsDoorOwed (max_job_size : ℕ) (lines : List LineOver) (taken : List Step) (answers : List Answer) : Type 0 where
  pub own : List Step
  pub of_lines : AreLinesOwed max_job_size lines own answers
  pub taken_is : taken ≡ own ++ Gone ∷ []

-- the doors of the seats from this one on
abbrev pub AreDoorsOwed : ℕ → ℕ → List (List LineOver) → List Entry → List GivenAnswer → Type 0
AreDoorsOwed max_job_size seat [] history given = Unit {0}
AreDoorsOwed max_job_size seat (lines ∷ doors) history given =
    IsDoorOwed max_job_size lines (steps_at seat history) (answers_to seat given) × AreDoorsOwed max_job_size (suc seat) doors history given

-- Apart from ticks, no step is at a higher seat.
abbrev pub AreSeatsUpTo : ℕ → List Entry → Type 0
AreSeatsUpTo seat history = IsTrue (list_all (λ e. nat_le e.seat seat) (without_ticks history))

-- One history contains the steps of each door's connections, once and in order, and for the control
-- line its drains and its end. Each entry has a clock reading of its own. The model runs over the
-- history from a new model, and each client received exactly the bytes that the model gives it
-- there. There is a door at each seat.
pub record IsHistoryOf (settings : Settings) (doors : List (List LineOver)) (control : List ℕ) (failed : Bool)
    (readings : List (Option ℕ)) (last : Machine) : Type 0 where
  pub history : List Entry
  pub given : List GivenAnswer
  pub run : IsRun settings readings history given last
  pub many : length doors ≡ settings.seats
  pub of_doors : AreDoorsOwed settings.max_job_size 0 doors history given
  pub of_control : IsControlDone control failed (steps_at settings.seats history)
  pub of_nobody_else : AreSeatsUpTo settings.seats history

-- The same for a lone connection at a seat: apart from ticks, the history contains only its steps.
pub record IsHistoryOfLine (settings : Settings) (seat : ℕ) (line : LineOver) (readings : List (Option ℕ)) : Type 0 where
  pub history : List Entry
  pub given : List GivenAnswer
  pub last : Machine
  pub run : IsRun settings readings history given last
  pub of_line : AreLinesOwed settings.max_job_size (line ∷ []) (steps_at seat history) (answers_to seat given)
  pub of_nobody_else : IsTrue (list_all (λ e. e.seat == seat) (without_ticks history))
