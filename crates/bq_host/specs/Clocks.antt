-- The readings of a clock.
use Rattle.std.specs.Prelude.{ℕ, List, Option}

-- the readings between two states of the clock
abbrev pub Gives : Type 0 → Type 1
Gives C = C → List (Option ℕ) → C → Type 0
