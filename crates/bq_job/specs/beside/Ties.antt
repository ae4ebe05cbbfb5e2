-- What ties what each part of a run did to one history of all clients' steps.
use Rattle.std.specs.Prelude.{ℕ, suc, Bool, ◌≡◌, ◌<◌, ◌==◌, IsTrue, List, [], ◌∷◌, ◌++◌, length, Option}
use Rattle.std.specs.List.{list_all}
use Rattle.bq_job.specs.promise.{AreSeatsUpTo, Entry, IsControlDone, IsRun, LineOver, answers_to, steps_at, without_ticks}
use Rattle.bq_job.specs.{beside.SeatDid.{AreLinesServed, IsSeatDone}, machine.{GivenAnswer, Settings, Machine.Machine}}
use Rattle.bq_job.specs.Types.{Answer, Step}

-- At each seat, the history contains the steps that the seat submitted. The answers that the run
-- gives the seat are those that it took and those that are still waiting for it.
abbrev pub AreTied : ℕ → ℕ → List (List LineOver) → (ℕ → List Step) → (ℕ → List Answer) → (ℕ → List Answer)
    → List Entry → List GivenAnswer → Type 0
AreTied max_job_size seat [] submitted taken waiting history given = Unit {0}
AreTied max_job_size seat (lines ∷ doors) submitted taken waiting history given =
    (steps_at seat history ≡ submitted seat) × (answers_to seat given ≡ taken seat ++ waiting seat)
    × IsSeatDone max_job_size lines (submitted seat) (taken seat)
    × AreTied max_job_size (suc seat) doors submitted taken waiting history given

-- what each part did, and how it fits together
pub record IsJoined (settings : Settings) (doors : List (List LineOver)) (control : List ℕ) (failed : Bool)
    (readings : List (Option ℕ)) (history : List Entry) (given : List GivenAnswer) (last : Machine) : Type 0 where
  pub submitted : ℕ → List Step
  pub taken : ℕ → List Answer
  pub waiting : ℕ → List Answer
  pub run : IsRun settings readings history given last
  pub many : length doors ≡ settings.seats
  pub tied : AreTied settings.max_job_size 0 doors submitted taken waiting history given
  pub control_tied : steps_at settings.seats history ≡ submitted settings.seats
  pub control_done : IsControlDone control failed (submitted settings.seats)
  pub of_nobody_else : AreSeatsUpTo settings.seats history

-- what a lone seat and the core did, and how it fits together
pub record IsLineJoined (settings : Settings) (seat : ℕ) (line : LineOver) (readings : List (Option ℕ))
    (history : List Entry) (given : List GivenAnswer) (last : Machine) : Type 0 where
  pub taken : List Answer
  pub waiting : List Answer
  pub within : seat < settings.seats
  pub run : IsRun settings readings history given last
  pub served : AreLinesServed settings.max_job_size (line ∷ []) (steps_at seat history) taken
  pub answers_are : answers_to seat given ≡ taken ++ waiting
  pub of_nobody_else : IsTrue (list_all (λ e. e.seat == seat) (without_ticks history))
