-- The number of seats to wake.
use Rattle.std.proofs.Common.{◌≡◌, ◌<◌, ℕ, suc, zero, length, List, [], ◌∷◌, take, arith, refl}
use Rattle.std.specs.Prelude.{slice_index_or}
use Rattle.bq_lock.specs.Rung.{others}

-- A seat other than the thread's own comes after this many others.
pub more_others : (own : ℕ) (seats : List ℕ) (place many : ℕ) → length (others own (take place seats)) ≡ many → place < length seats
    → (slice_index_or seats place 0 ≡ own → ⊥) → many < length (others own seats)
more_others own [] place many e below differs = absurd (omega arith)
more_others own (s ∷ seats) zero many e below differs = grind arith
more_others own (s ∷ seats) (suc place) many e below differs =
    grind (arith, more_others own seats place (length (others own (take place seats))) refl)
