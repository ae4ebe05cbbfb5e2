-- Facts about lists of any elements: tests, changes of each element, counts.
use Rattle.std.proofs.Common.{◌≡◌, ◌≤◌, ◌<◌, ◌+◌, Bool, true, false, ◌&&◌, not, cond, List}
use Rattle.std.proofs.Common.{[], ◌∷◌, ◌++◌, map, arith, refl, sym, ap, ◌∙◌}
use Rattle.std.proofs.lemmas.Bool.{cases_Bool, and_parts, and_from, or_parts, or_from}
use Rattle.std.proofs.lemmas.Bool.{or_left, or_right, or_cases, both_ways, false_from_ne_true}
use Rattle.std.proofs.lemmas.List.Elements.{All-from_recursion, recursion_from_All, All-contains}
use Rattle.std.proofs.lemmas.List.Elements.{All-contains_itself, Contains-append_right}
use Rattle.std.proofs.{Common.{Some, count_by, filter, find, flat_map, length}, lemmas.Grind.common_steps}
use Rattle.std.proofs.lemmas.List.{Folds.{list_any-append, list_any-from_Any}, Sums.sum_by-cons}
use Rattle.std.specs.List.{AllByRecursion as All, Contains, list_any, list_all}

-- the head of a list and its rest
pub heads : {A : Type 0} (x y : A) (xs ys : List A) → (x ∷ xs) ≡ (y ∷ ys) → (x ≡ y) × (xs ≡ ys)
heads x y xs ys e = (cc, cc)

-- an element is the head of a list, or in its rest
pub contains_head : {X : Type 0} (x : X) (xs : List X) → Contains (x ∷ xs) x
contains_head x xs = (0, omega arith, refl)

pub contains_tail : {X : Type 0} (x : X) (xs : List X) (y : X) → Contains xs y → Contains (x ∷ xs) y
contains_tail x xs y h = Contains-append_right (x ∷ []) xs y h

-- what holds of all elements holds of one
pub all_at : {X : Type 0} (P : X → Type 0) (xs : List X) (x : X) → All P xs → Contains xs x → P x
all_at P xs x h i = All-contains P xs x (All-from_recursion P xs h) i

pub all_always : {X : Type 0} (P : X → Type 0) (xs : List X) → ((x : X) → P x) → All P xs
all_always P [] h = tt
all_always P (x ∷ xs) h = (h x, all_always P xs h)

pub all_weaker : {X : Type 0} (P Q : X → Type 0) (xs : List X) → ((x : X) → P x → Q x) → All P xs → All Q xs
all_weaker P Q [] w h = tt
all_weaker P Q (x ∷ xs) w h = (w x h.0, all_weaker P Q xs w h.1)

-- what holds of each element in the list holds of all
pub all_from_members : {X : Type 0} (P : X → Type 0) (xs : List X) → ((x : X) → Contains xs x → P x) → All P xs
all_from_members P xs h = all_weaker (Contains xs) P xs h (recursion_from_All (Contains xs) xs (All-contains_itself xs))

pub all_both : {X : Type 0} (P Q : X → Type 0) (xs : List X) → All P xs → All Q xs → All (λ x. P x × Q x) xs
all_both P Q [] h i = tt
all_both P Q (x ∷ xs) h i = ((h.0, i.0), all_both P Q xs h.1 i.1)

pub all_of_map : {X Y : Type 0} (P : Y → Type 0) (f : X → Y) (xs : List X) → All (λ x. P (f x)) xs → All P (map f xs)
all_of_map P f [] h = tt
all_of_map P f (x ∷ xs) h = (h.0, all_of_map P f xs h.1)

pub all_before_map : {X Y : Type 0} (P : Y → Type 0) (f : X → Y) (xs : List X) → All P (map f xs) → All (λ x. P (f x)) xs
all_before_map P f [] h = tt
all_before_map P f (x ∷ xs) h = (h.0, all_before_map P f xs h.1)

pub all_of_append : {X : Type 0} (P : X → Type 0) (xs ys : List X) → All P xs → All P ys → All P (xs ++ ys)
all_of_append P xs ys h i = grind (arith, common_steps)

-- what is kept by a filter passes, and what held of all holds of it
pub all_of_filter : {X : Type 0} (P : X → Type 0) (p : X → Bool) (xs : List X) → All P xs → All (λ x. P x × (p x ≡ true)) (filter p xs)
all_of_filter P p [] h = tt
all_of_filter P p (x ∷ xs) h = grind (arith, common_steps, cases_Bool, all_of_filter P p xs h.1)

-- a test of all elements, and a test of any
pub all_pass : {X : Type 0} (p : X → Bool) (xs : List X) → list_all p xs ≡ true → All (λ x. p x ≡ true) xs
all_pass p [] h = tt
all_pass p (x ∷ xs) h = let parts = and_parts (p x) (list_all p xs) h in (parts.0, all_pass p xs parts.1)

pub list_all_from : {X : Type 0} (p : X → Bool) (xs : List X) → All (λ x. p x ≡ true) xs → list_all p xs ≡ true
list_all_from p [] h = refl
list_all_from p (x ∷ xs) h = and_from (p x) (list_all p xs) h.0 (list_all_from p xs h.1)

pub none_pass : {X : Type 0} (p : X → Bool) (xs : List X) → list_any p xs ≡ false → All (λ x. p x ≡ false) xs
none_pass p [] h = tt
none_pass p (x ∷ xs) h = let parts = or_parts (p x) (list_any p xs) h in (parts.0, none_pass p xs parts.1)

pub list_any_not : {X : Type 0} (p : X → Bool) (xs : List X) → All (λ x. p x ≡ false) xs → list_any p xs ≡ false
list_any_not p [] h = refl
list_any_not p (x ∷ xs) h = or_from (p x) (list_any p xs) h.0 (list_any_not p xs h.1)

-- if no element of two joined lists passes, none of either does
pub none_in_parts : {X : Type 0} (p : X → Bool) (xs ys : List X) → list_any p (xs ++ ys) ≡ false
    → (list_any p xs ≡ false) × (list_any p ys ≡ false)
none_in_parts p xs ys h = or_parts (list_any p xs) (list_any p ys) (sym (list_any-append p xs ys) ∙ h)

-- an element of the list that passes makes `list_any` true
pub list_any_with : {X : Type 0} (p : X → Bool) (xs : List X) (x : X) → Contains xs x → p x ≡ true → list_any p xs ≡ true
list_any_with p xs x i h = list_any-from_Any p xs (i.0, x, i.1, i.2, h)

-- If an element passed the first test, its change passes the second.
pub list_any_of_map : {X Y : Type 0} (p : X → Bool) (q : Y → Bool) (f : X → Y) (xs : List X) → All (λ x. p x ≡ true → q (f x) ≡ true) xs
    → list_any p xs ≡ true → list_any q (map f xs) ≡ true
list_any_of_map p q f [] w h = h
list_any_of_map p q f (x ∷ xs) w h = grind (arith, or_cases, or_left, or_right, list_any_of_map p q f xs)

-- a change that keeps the keys keeps the list of keys
pub keys_of_map : {X K : Type 0} (key : X → K) (f : X → X) (xs : List X) → All (λ x. key (f x) ≡ key x) xs → map key (map f xs) ≡ map key xs
keys_of_map key f [] same = refl
keys_of_map key f (x ∷ xs) same = let here = same.0 in let rest = keys_of_map key f xs same.1 in cc

pub count_cons : {X : Type 0} (p : X → Bool) (x : X) (xs : List X) → count_by p (x ∷ xs) ≡ cond (p x) 1 0 + count_by p xs
count_cons p x xs = sum_by-cons (λ x. cond (p x) 1 0) x xs

pub one_or_none : (b c : Bool) → (c ≡ true → b ≡ true) → cond c 1 0 ≤ cond b 1 0
one_or_none b c w = grind (arith, common_steps, cases_Bool)

-- If the change makes no element pass, the count does not grow.
pub count_of_map : {X : Type 0} (p : X → Bool) (f : X → X) (xs : List X) → All (λ x. p (f x) ≡ true → p x ≡ true) xs
    → count_by p (map f xs) ≤ count_by p xs
count_of_map p f [] w = omega arith
count_of_map p f (x ∷ xs) w = grind (arith, common_steps, count_cons, one_or_none, count_of_map p f xs w.1)

-- It falls if an element no longer passes.
pub count_falls : {X : Type 0} (p : X → Bool) (f : X → X) (xs : List X) → All (λ x. p (f x) ≡ true → p x ≡ true) xs
    → list_any (λ x. p x && not (p (f x))) xs ≡ true → count_by p (map f xs) < count_by p xs
count_falls p f [] w h = absurd cc
count_falls p f (x ∷ xs) w h = grind (arith, count_cons, or_cases, count_of_map, one_or_none, count_falls p f xs)

-- if none is counted, none passes
pub count_none : {X : Type 0} (p : X → Bool) (xs : List X) → count_by p xs ≤ 0 → All (λ x. p x ≡ false) xs
count_none p [] h = tt
count_none p (x ∷ xs) h = grind (arith, common_steps, count_cons, count_none p xs)

-- what a search finds passes and is in the list
pub found_passes : {X : Type 0} (p : X → Bool) (xs : List X) (x : X) → find p xs ≡ Some x → (p x ≡ true) × Contains xs x
found_passes p [] x h = absurd cc
found_passes p (y ∷ ys) x h = grind (arith, contains_head, contains_tail, found_passes p ys x)

-- A filter that keeps every element that passes does not change the result of a search.
pub find_in_filter : {X : Type 0} (p q : X → Bool) (xs : List X) → All (λ x. p x ≡ true → q x ≡ true) xs → find p (filter q xs) ≡ find p xs
find_in_filter p q [] h = refl
find_in_filter p q (x ∷ xs) h = grind (arith, false_from_ne_true, both_ways, find_in_filter p q xs h.1)

-- if all pass, all are kept
pub filter_all : {X : Type 0} (p : X → Bool) (xs : List X) → All (λ x. p x ≡ true) xs → filter p xs ≡ xs
filter_all p [] h = refl
filter_all p (x ∷ xs) h = rw h.0 (ap (λ ys. x ∷ ys) (filter_all p xs h.1))

pub filter_no_longer : {X : Type 0} (p : X → Bool) (xs : List X) → length (filter p xs) ≤ length xs
filter_no_longer p [] = omega arith
filter_no_longer p (x ∷ xs) = grind (arith, common_steps, cases_Bool, filter_no_longer p xs)

-- tests that agree
pub list_all_agree : {X : Type 0} (p q : X → Bool) → ((x : X) → p x ≡ q x) → (xs : List X) → list_all p xs ≡ list_all q xs
list_all_agree p q same xs = grind arith

-- a change that changes no element
pub map_all_same : {X : Type 0} (f : X → X) (xs : List X) → All (λ x. f x ≡ x) xs → map f xs ≡ xs
map_all_same f [] h = refl
map_all_same f (x ∷ xs) h = let here = h.0 in let rest = map_all_same f xs h.1 in cc

pub count_all_not : {X : Type 0} (p : X → Bool) (xs : List X) → All (λ x. p x ≡ false) xs → count_by p xs ≡ 0
count_all_not p [] h = refl
count_all_not p (x ∷ xs) h = count_cons p x xs ∙ rw (h.0, count_all_not p xs h.1) refl

pub all_parts : {X : Type 0} (P : X → Type 0) (xs ys : List X) → All P (xs ++ ys) → All P xs × All P ys
all_parts P [] ys h = (tt, h)
all_parts P (x ∷ xs) ys h = let rest = all_parts P xs ys h.1 in ((h.0, rest.0), rest.1)

-- what holds of all joined lists holds of each of them
pub all_of_flat_map : {X Y : Type 0} (P : Y → Type 0) (f : X → List Y) (xs : List X) → All P (flat_map f xs) → All (λ x. All P (f x)) xs
all_of_flat_map P f [] h = tt
all_of_flat_map P f (x ∷ xs) h = let parts = all_parts P (f x) (flat_map f xs) h in (parts.0, all_of_flat_map P f xs parts.1)
