-- First parts of texts that are written together.
use Rattle.std.proofs.Common.{◌≡◌, ℕ, zero, suc, ◌-◌, List, [], ◌∷◌, ◌++◌, length, take, refl, sym, ap, arith, append_assoc}

-- of two texts
pub taken_of_two : (n : ℕ) (xs ys : List ℕ) → take n (xs ++ ys) ≡ take n xs ++ take (n - length xs) ys
taken_of_two zero [] ys = refl
taken_of_two (suc n) [] ys = let all : suc n - 0 ≡ suc n = omega arith in ap (λ m. take m ys) (sym all)
taken_of_two zero (x ∷ xs) ys = let none : 0 - suc (length xs) ≡ 0 = omega arith in ap (λ m. take m ys) (sym none)
taken_of_two (suc n) (x ∷ xs) ys = grind (arith, taken_of_two n xs ys)

-- of three texts, after what was there
pub taken_together : (old first second third : List ℕ) (n : ℕ)
    → ((old ++ take n first) ++ take (n - length first) second) ++ take ((n - length first) - length second) third ≡ old
    ++ take n (first ++ second ++ third)
taken_together old first second third n = grind (arith, taken_of_two, append_assoc)
