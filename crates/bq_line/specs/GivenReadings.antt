-- The readings that a clock gave between two of its states.
use Rattle.std.specs.Prelude.{ℕ, List, ◌++◌, Option}

-- Whatever readings it gave before, these followed.
abbrev pub GaveReadings : {C : Type 0} → (C → List (Option ℕ) → C → Type 0) → C → List (Option ℕ) → C → Type 0
GaveReadings {C} given old readings new =
    (first : C) (before : List (Option ℕ)) → given first before old → given first (before ++ readings) new
