-- The last parts of lists.
use Rattle.std.specs.Prelude.{ℕ, ◌≡◌, ◌-◌, ◌++◌, List, drop, length}

-- the last part of a list, with at most n elements
abbrev pub last_part : {X : Type 0} → ℕ → List X → List X
last_part n xs = drop (length xs - n) xs

-- The list ends with this part, which may be empty.
abbrev pub EndsWith : {X : Type 0} → List X → List X → Type 0
EndsWith {X} xs part = (front : List X) × (xs ≡ front ++ part)
