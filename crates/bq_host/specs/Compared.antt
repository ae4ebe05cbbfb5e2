-- How many comparisons of keys the core of a run made along its history.
use Rattle.std.specs.Prelude.{ℕ, ◌≡◌, Bool, true, false, List, [], ◌∷◌, ◌++◌}
use Rattle.bq_job.specs.machine.Dispatch.{GivenAnswer}
use Rattle.bq_job.specs.machine.Machine.{Machine}
use Rattle.bq_job.specs.machine.Steps.{Outcome}
use Rattle.bq_job.specs.promise.Runs.{Entry}
use Rattle.bq_core_api.specs.Cost.{IsLookWithin, IsStepWithin}

-- The core was asked for the next due moment at most once, and then took the step of this entry.
-- Both stayed within their bounds of comparisons.
pub record IsEntryWithin (first : Machine) (e : Entry) (given : List GivenAnswer) (next : Machine) (old new : ℕ) : Type 0 where
  pub looked : ℕ
  pub outcome : Outcome
  pub look : IsLookWithin first old looked
  pub step : IsStepWithin first e.moment e.seat e.what outcome given next looked new

-- The core took the steps of a history in order, each within its bound, and gave these answers.
abbrev pub AreWithin : Machine → List Entry → List GivenAnswer → Machine → ℕ → ℕ → Type 0
AreWithin first [] given last old new = (given ≡ []) × ((last ≡ first) × (new ≡ old))
AreWithin first (e ∷ history) given last old new =
    (next : Machine) × (own : List GivenAnswer) × (more : List GivenAnswer) × (count : ℕ)
    × ((given ≡ own ++ more) × (IsEntryWithin first e own next old count × AreWithin next history more last count new))

-- The same, and after the last step the core was asked for the next due moment at most once.
pub record AreCompared (first : Machine) (history : List Entry) (given : List GivenAnswer) (last : Machine) (old new : ℕ) : Type 0 where
  pub count : ℕ
  pub steps : AreWithin first history given last old count
  pub look : IsLookWithin last count new

-- Since its last step the core was asked for the next due moment at most once, and not at all if
-- that moment is not known.
abbrev pub LooksOnce : Bool → Machine → ℕ → ℕ → Type 0
LooksOnce true m old new = IsLookWithin m old new
LooksOnce false m old new = new ≡ old
