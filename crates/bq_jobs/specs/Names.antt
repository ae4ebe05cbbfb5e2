-- An order of tube names that is cheap to compute.
use Rattle.std.specs.Prelude.{ℕ, List, [], ◌∷◌, length}
use Rattle.std.specs.declared.cmp.Ordering.{Ordering}
use Rattle.std.specs.Cmp.{IsTotalOrder, nat_cmp_total, on_total, then_total}
use Rattle.std.specs.Cmp.Lexicographic.{nat_list_cmp_total, slice_cmp}
use Rattle.std.specs.Ordering.{nat_cmp, on, then_cmp}

-- by length, then by bytes
abbrev pub name_cmp : List ℕ → List ℕ → Ordering
name_cmp = then_cmp (on length nat_cmp) (slice_cmp nat_cmp)

pub name_total : IsTotalOrder name_cmp
name_total = then_total (on_total length nat_cmp_total) nat_list_cmp_total

-- the number that a name represents: its first byte
abbrev pub number_in : List ℕ → ℕ
number_in [] = 0
number_in (n ∷ rest) = n
