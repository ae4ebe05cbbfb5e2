-- A list of seats, and a mark for each seat that tells whether the seat is in the list.
use Rattle.std.specs.Prelude.{ℕ, ◌≡◌, ◌==◌, Bool, cond, List, length, slice_index_or}
use Rattle.std.specs.List.{count_by}

-- how often the seat is in the list
abbrev pub times : ℕ → List ℕ → ℕ
times seat xs = count_by (λ x. x == seat) xs

-- The seats with such a mark are those of the list, each of them once. A seat that does not exist
-- counts as one with the mark `none`.
pub record HasMarks {M : Type 0} (p : M → Bool) (none : M) (xs : List ℕ) (marks : List M) : Type 0 where
  pub each : (seat : ℕ) → times seat xs ≡ cond (p (slice_index_or marks seat none)) 1 0
  pub many : length xs ≡ count_by p marks
