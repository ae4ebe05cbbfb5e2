-- Invariants of loops over lists.
use Rattle.std.proofs.{Common.{◌+◌, ◌<◌, ◌≡◌, List, ℕ, arith, fold, get_or, length, take}, lemmas.List.Sums.fold_more}

-- a turn of a loop that folds one element after another
pub folded_more : {A B : Type 0} (step : B → A → B) (init : B) (xs : List A) (i : ℕ) (x : A) (best new : B) → i < length xs
    → x ≡ get_or xs i x → best ≡ fold step init (take i xs) → new ≡ step best x → new ≡ fold step init (take (i + 1) xs)
folded_more step init xs i x best new fits read so_far made = grind (arith, fold_more)

-- the same if the step uses a value that has not changed
pub folded_beside : {A B S : Type 0} (step : S → B → A → B) (s t : S) → t ≡ s → (init : B) (xs : List A) (i : ℕ) (d : A) (best new : B)
    → i < length xs → best ≡ fold (step s) init (take i xs) → new ≡ step t best (get_or xs i d) → new ≡ fold (step s) init (take (i + 1) xs)
folded_beside step s t same init xs i d best new fits so_far made = grind (arith, fold_more)
