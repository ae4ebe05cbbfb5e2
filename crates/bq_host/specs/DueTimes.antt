-- How long a loop may wait for the next moment at which something is due.
use Rattle.std.specs.Prelude.{ℕ, ◌≡◌, ◌≤◌, ◌⊎◌, ◌+◌, ◌-◌, Option, Some, None}

-- the milliseconds from this moment to the next due one
abbrev pub time_left : Option ℕ → ℕ → Option ℕ
time_left None moment = None
time_left (Some due) moment = Some (due - moment)

-- A wait of at most this many milliseconds from this moment ends no later than what is due. `None`
-- stands for a wait without a limit, and for nothing that is due.
abbrev pub IsWithinDue : Option ℕ → Option ℕ → ℕ → Type 0
IsWithinDue most None moment = Unit {0}
IsWithinDue None (Some due) moment = ⊥
IsWithinDue (Some most) (Some due) moment = moment + most ≤ due

-- The same, or no wait at all.
abbrev pub IsLimit : Option ℕ → Option ℕ → ℕ → Type 0
IsLimit most due moment = (most ≡ Some 0) ⊎ IsWithinDue most due moment
