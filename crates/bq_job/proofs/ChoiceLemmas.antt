-- The first of those that pass a test: it is in the list, it passes, and no other that passes comes
-- before it.
use Rattle.std.proofs.Common.{◌||◌, ◌∙◌, ◌∷◌, ◌≡◌, ◌⊎◌, Bool, List, None, Option, Some, []}
use Rattle.std.proofs.Common.{ℕ, ap, arith, false, inl, refl, sym, true}
use Rattle.std.proofs.{Common.◌==◌, lemmas.Bool.{and_parts, cases_Bool, Decides.nat_tests}}
use Rattle.std.proofs.lemmas.Grind.{common_steps}
use Rattle.std.proofs.{lemmas.List.Folds.list_any-from_Any, Math.Bool.or_assoc}
use Rattle.std.specs.{Cmp.IsStrictWeakOrder, List.{AllByRecursion, Contains, list_any}, Prelude.{fold, is_some}}
use Rattle.bq_job.specs.machine.{better_of, first_of, is_pair_before}
use Rattle.bq_job.proofs.ListLemmas.{contains_head, contains_tail}

-- pairs of numbers, ordered by the first and then by the second
pub pair_order : {X : Type 0} (first second : X → ℕ) → IsStrictWeakOrder (λ x y. is_pair_before (first x) (second x) (first y) (second y))
pair_order first second = record { one_way = λ x y h. grind (arith, nat_tests); chain = λ x y z h i. grind (arith, nat_tests) }

-- Of two pairs with different second numbers, one comes first.
pub pair_other : (a i b j : ℕ) → is_pair_before b j a i ≡ false → (j == i) ≡ false → is_pair_before a i b j ≡ true
pair_other a i b j h other = grind (arith, nat_tests)

-- what the choice so far must satisfy with respect to the final choice
abbrev IsNotAfter : {X : Type 0} → (X → X → Bool) → Option X → X → Type 0
IsNotAfter before None z = Unit {0}
IsNotAfter before (Some b) z = before b z ≡ false

-- Nothing in the list that passes comes before the chosen one, nor did the best one so far.
fold_is_least : {X : Type 0} (passes : X → Bool) {before : X → X → Bool} (order : IsStrictWeakOrder before) (best : Option X) (xs : List X)
    (z : X) → fold (better_of passes before) best xs ≡ Some z
    → IsNotAfter before best z × AllByRecursion (λ y. passes y ≡ true → before y z ≡ false) xs
fold_is_least passes {before = before} order best [] z h = grind (arith, common_steps, cases_Bool)
fold_is_least passes {before = before} order best (x ∷ xs) z h =
    grind (arith, common_steps, fold_is_least passes order (better_of passes before best x) xs z h)

-- nothing that passes comes before the chosen one
pub first_of_is_least : {X : Type 0} (passes : X → Bool) {before : X → X → Bool} (order : IsStrictWeakOrder before) (xs : List X) (z y : X)
    → first_of passes before xs ≡ Some z → Contains xs y → passes y ≡ true → before y z ≡ false
first_of_is_least passes {before = before} order xs z y h i p = grind (arith, common_steps, fold_is_least passes order None xs z h)

fold_chosen : {X : Type 0} (passes : X → Bool) (before : X → X → Bool) (best : Option X) (xs : List X) (z : X)
    → fold (better_of passes before) best xs ≡ Some z → (best ≡ Some z) ⊎ (Contains xs z × (passes z ≡ true))
fold_chosen passes before best [] z h = inl h
fold_chosen passes before best (x ∷ xs) z h =
    grind (arith, common_steps, and_parts, contains_head, contains_tail, fold_chosen passes before (better_of passes before best x) xs z h)

-- the chosen one passes
pub first_of_passes : {X : Type 0} (passes : X → Bool) (before : X → X → Bool) (xs : List X) (z : X)
    → first_of passes before xs ≡ Some z → passes z ≡ true
first_of_passes passes before xs z h = grind (arith, fold_chosen passes before None xs z h)

-- the chosen one is in the list
pub first_of_contains : {X : Type 0} (passes : X → Bool) (before : X → X → Bool) (xs : List X) (z : X)
    → first_of passes before xs ≡ Some z → Contains xs z
first_of_contains passes before xs z h = grind (arith, fold_chosen passes before None xs z h)

fold_is_some : {X : Type 0} (passes : X → Bool) (before : X → X → Bool) (best : Option X) (xs : List X)
    → is_some (fold (better_of passes before) best xs) ≡ (is_some best || list_any passes xs)
fold_is_some passes before best [] = grind arith
fold_is_some passes before best (x ∷ xs) = grind (arith, or_assoc, fold_is_some passes before (better_of passes before best x) xs)

-- An element is chosen if and only if one passes.
pub first_of_is_some : {X : Type 0} (passes : X → Bool) (before : X → X → Bool) (xs : List X)
    → is_some (first_of passes before xs) ≡ list_any passes xs
first_of_is_some passes before xs = fold_is_some passes before None xs

-- if none is chosen, none passes
pub first_of_none : {X : Type 0} (passes : X → Bool) (before : X → X → Bool) (xs : List X) → first_of passes before xs ≡ None
    → list_any passes xs ≡ false
first_of_none passes before xs h = sym (first_of_is_some passes before xs) ∙ ap is_some h

-- if none passes, none is chosen
pub first_of_none_passes : {X : Type 0} (passes : X → Bool) (before : X → X → Bool) (xs : List X) → list_any passes xs ≡ false
    → first_of passes before xs ≡ None
first_of_none_passes passes before xs h = let is = first_of_is_some passes before xs in grind (arith, common_steps)

-- if one passes, one is chosen
pub first_of_some : {X : Type 0} (passes : X → Bool) (before : X → X → Bool) (xs : List X) → list_any passes xs ≡ true
    → (z : X) × (first_of passes before xs ≡ Some z)
first_of_some passes before xs h = let is = first_of_is_some passes before xs in grind (arith, common_steps)

-- An element of the list that passes is the chosen one if none that passes comes before it and no
-- other ties with it.
pub first_of_is : {X : Type 0} (passes : X → Bool) {before : X → X → Bool} (order : IsStrictWeakOrder before) (xs : List X) (x : X)
    → Contains xs x → passes x ≡ true → ((y : X) → Contains xs y → passes y ≡ true → before y x ≡ false)
    → ((y : X) → Contains xs y → before x y ≡ false → before y x ≡ false → y ≡ x) → first_of passes before xs ≡ Some x
first_of_is passes {before = before} order xs x i p least unique =
    let z = first_of_some passes before xs (list_any-from_Any passes xs (i.0, x, i.1, i.2, p)) in
    let c = first_of_contains passes before xs z.0 z.1 in
    let e : z.0 ≡ x = unique z.0 c (first_of_is_least passes order xs z.0 x z.1 i p)
    (least z.0 c (first_of_passes passes before xs z.0 z.1)) in
    z.1 ∙ ap Some e

fold_agrees : {X : Type 0} (p q : X → Bool) (before : X → X → Bool) (best : Option X) (xs : List X) → AllByRecursion (λ x. p x ≡ q x) xs
    → fold (better_of p before) best xs ≡ fold (better_of q before) best xs
fold_agrees p q before best [] h = refl
fold_agrees p q before best (x ∷ xs) h = grind (arith, fold_agrees p q before (better_of q before best x) xs h.1)

-- Two tests that agree on the list choose the same element.
pub first_of_agrees : {X : Type 0} (p q : X → Bool) (before : X → X → Bool) (xs : List X) → AllByRecursion (λ x. p x ≡ q x) xs
    → first_of p before xs ≡ first_of q before xs
first_of_agrees p q before xs h = fold_agrees p q before None xs h
