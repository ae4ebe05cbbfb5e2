-- What a core with its clock did, whoever submitted the steps and whoever takes the answers.
use Rattle.std.specs.Prelude.{ℕ, ◌++◌, Bool, false, List, Option}
use Rattle.bq_job.specs.declared.settings.Settings.{Settings}
use Rattle.bq_job.specs.machine.Dispatch.{GivenAnswer}
use Rattle.bq_job.specs.machine.Machine.{Machine, new_machine}
use Rattle.bq_job.specs.promise.History.{IsTimedFrom}
use Rattle.bq_job.specs.promise.Runs.{Entry, Run}
use Rattle.bq_host.specs.Compared.{AreWithin, LooksOnce}
use Rattle.bq_host.specs.Meanings.{Core}
use Rattle.bq_host.specs.declared.timed_core.TimedCore.{TimedCore}

pub record TimedState : Type 0 where
  pub core : Machine
  -- the latest moment of the clock
  pub heard : ℕ
  -- whether the next due moment is known, and the comparisons so far
  pub known : Bool
  pub compared : ℕ

-- the state of a core with its clock
abbrev pub timed_state : {C K : Type 0} → Core K → TimedCore C K → TimedState
timed_state k t = record {
  core = k.machine t.core;
  heard = t.time.moment;
  known = t.is_due_known;
  compared = k.comparisons t.core;
}

-- a new core whose clock was not read, and which has made this many comparisons
abbrev pub new_timed : Settings → ℕ → TimedState
new_timed settings from = record { core = new_machine settings; heard = 0; known = false; compared = from }

-- Along this history, counted from this many comparisons on, the core stayed within the bounds of
-- its steps, and was asked for the next due moment at most once since the last step.
abbrev pub HasCompared : Machine → List Entry → List GivenAnswer → ℕ → TimedState → Type 0
HasCompared start history given from t = (count : ℕ) × AreWithin start history given t.core from count
    × LooksOnce t.known t.core count t.compared

-- From the first state to the last the core stayed within its bounds, after whatever it did before.
abbrev pub Compares : TimedState → List Entry → List GivenAnswer → TimedState → Type 0
Compares first history given last = (start : Machine) (before : List Entry) (gave : List GivenAnswer) (from : ℕ)
    → HasCompared start before gave from first → HasCompared start (before ++ history) (gave ++ given) from last

-- The core took the steps of this history at moments of these readings, within its bounds of comparisons, and gave these answers.
pub record HasRun (first : TimedState) (readings : List (Option ℕ)) (history : List Entry) (given : List GivenAnswer) (last : TimedState)
    : Type 0 where
  pub runs : Run first.core history given last.core
  pub timed : IsTimedFrom first.heard readings history last.heard
  pub compared : Compares first history given last
