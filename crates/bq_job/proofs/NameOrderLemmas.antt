-- Names in byte order, and the listed tubes.
use Rattle.std.proofs.Common.{◌++◌, ◌||◌, ◌∙◌, ◌∷◌, ◌≡◌, Bool, List, [], ℕ, ap}
use Rattle.std.proofs.Common.{append-nil, append_assoc, arith, false, map, refl, rules, sym, true}
use Rattle.std.proofs.lemmas.{Bool.{and_parts, cases_Bool}, Cmp.nat_list_cmp_total, Grind.common_steps}
use Rattle.std.proofs.lemmas.List.Elements.{Contains-append_right}
use Rattle.std.proofs.{lemmas.Map.Lookups.exact_bytes, Math.Bool.or-false}
use Rattle.std.specs.{Cmp.Lexicographic.slice_cmp, List.{AllByRecursion as All, list_any}, Prelude.{flat_map, fold}}
use Rattle.std.specs.{declared.cmp.Ordering.{Ordering, TheVariants.Less}, Ordering.{is_lt, nat_cmp, ordering_reverse}}
use Rattle.bq_job.specs.machine.{Machine.Machine, SeatRecord, is_name_before, is_seated_at, is_tube, seated_tubes, tubes}
use Rattle.bq_job.specs.{beside.is_in_order, declared.job.Job.Job, machine.with_name, reading.TubeName.is_same_name}
use Rattle.bq_job.proofs.ListLemmas.{all_at, all_weaker, contains_head}

is_Less : (r : Ordering) → is_lt r ≡ true → r ≡ Less
is_Less r e = grind (arith, common_steps, cases_Bool)

-- a name that neither equals another nor comes before it comes after it
comes_after : (a b : List ℕ) (r : Ordering) → slice_cmp nat_cmp a b ≡ r → is_same_name a b ≡ false → is_name_before a b ≡ false
    → is_name_before b a ≡ true
comes_after a b r e same before = search (rules, cases_Bool, exact_bytes, nat_list_cmp_total)

pub after : (a b : List ℕ) → is_same_name a b ≡ false → is_name_before a b ≡ false → is_name_before b a ≡ true
after a b = comes_after a b (slice_cmp nat_cmp a b) refl

pub before_trans : (a b c : List ℕ) → is_name_before a b ≡ true → is_name_before b c ≡ true → is_name_before a c ≡ true
before_trans a b c h k = ap is_lt (nat_list_cmp_total.trans a b c (is_Less _ h) (is_Less _ k))

pub not_before : (a b : List ℕ) → is_name_before a b ≡ true → is_name_before b a ≡ false
not_before a b h = ap is_lt (nat_list_cmp_total.antisymm b a ∙ ap ordering_reverse (is_Less _ h))

pub not_same : (a b : List ℕ) (same : Bool) → is_same_name b a ≡ same → is_name_before a b ≡ true → same ≡ false
not_same a b same e h = search (rules, cases_Bool, not_before)

-- a name inserted after one that comes before it
in_order_behind : (p n : List ℕ) (names : List (List ℕ)) → is_name_before p n ≡ true → is_in_order (p ∷ names) ≡ true
    → is_in_order (p ∷ with_name names n) ≡ true
in_order_behind p n [] b h = rw b refl
in_order_behind p n (o ∷ names) b h = grind (arith, common_steps, and_parts, after, in_order_behind o n names)

pub in_order_with : (n : List ℕ) (names : List (List ℕ)) → is_in_order names ≡ true → is_in_order (with_name names n) ≡ true
in_order_with n [] h = refl
in_order_with n (o ∷ names) h = grind (arith, common_steps, in_order_behind, after)

pub in_order_fold : (names so_far : List (List ℕ)) → is_in_order so_far ≡ true → is_in_order (fold with_name so_far names) ≡ true
in_order_fold [] so_far h = h
in_order_fold (n ∷ names) so_far h = in_order_fold names (with_name so_far n) (in_order_with n so_far h)

pub rest_in_order : (o : List ℕ) (names : List (List ℕ)) → is_in_order (o ∷ names) ≡ true → is_in_order names ≡ true
rest_in_order o names h = grind (arith, common_steps, cases_Bool, and_parts)

-- the first of ordered names comes before all others, and a name that does so may be put first
pub first_of_order : (o : List ℕ) (names : List (List ℕ)) → is_in_order (o ∷ names) ≡ true → All (λ n. is_name_before o n ≡ true) names
first_of_order o [] h = tt
first_of_order o (x ∷ names) h = grind (arith, and_parts, all_weaker, before_trans, first_of_order x names)

-- the first of names in order comes before each later one
first_before : (o n : List ℕ) (names more : List (List ℕ)) → is_in_order (o ∷ (names ++ n ∷ more)) ≡ true → is_name_before o n ≡ true
first_before o n names more h =
    all_at _ _ n (first_of_order o (names ++ n ∷ more) h) (Contains-append_right names (n ∷ more) n (contains_head n more))

pub in_order_from : (o : List ℕ) (names : List (List ℕ)) → All (λ n. is_name_before o n ≡ true) names → is_in_order names ≡ true
    → is_in_order (o ∷ names) ≡ true
in_order_from o names first h = grind (arith, common_steps, cases_Bool)

-- a name that comes after all others is inserted at the end
put_last : (n : List ℕ) (names more : List (List ℕ)) → is_in_order (names ++ n ∷ more) ≡ true → with_name names n ≡ names ++ n ∷ []
put_last n [] more h = refl
put_last n (o ∷ names) more h =
    search (rules, first_before, not_same, not_before, rest_in_order, put_last n names more)

pub stays_fold : (names so_far : List (List ℕ)) → is_in_order (so_far ++ names) ≡ true → fold with_name so_far names ≡ so_far ++ names
stays_fold [] so_far h = sym (append-nil so_far)
stays_fold (n ∷ names) so_far h = grind (arith, put_last, append_assoc, stays_fold names (so_far ++ n ∷ []))

-- a name is among names to which one was added if it is that name or was among them
any_with : (p : List ℕ → Bool) (n : List ℕ) (names : List (List ℕ)) → list_any p (with_name names n) ≡ (p n || list_any p names)
any_with p n [] = refl
any_with p n (o ∷ names) = search (rules, any_with p n names)

any_fold : (p : List ℕ → Bool) (names so_far : List (List ℕ))
    → list_any p (fold with_name so_far names) ≡ (list_any p so_far || list_any p names)
any_fold p [] so_far = sym (or-false (list_any p so_far))
any_fold p (n ∷ names) so_far = grind (arith, common_steps, any_with, any_fold p names (with_name so_far n))

any-jobs : (p : List ℕ → Bool) (jobs : List Job) → list_any p (map (λ j. j.tube) jobs) ≡ list_any (λ j. p j.tube) jobs
any-jobs p [] = refl
any-jobs p (j ∷ jobs) = ap (λ b. p j.tube || b) (any-jobs p jobs)

any-seats : (name : List ℕ) (seats : List SeatRecord)
    → list_any (is_same_name name) (flat_map seated_tubes seats) ≡ list_any (is_seated_at name) seats
any-seats name [] = refl
any-seats name (s ∷ seats) = grind (arith, common_steps, any-seats name seats)

-- a tube is listed if it exists
pub listed : (name : List ℕ) (m : Machine) → list_any (is_same_name name) (tubes m) ≡ is_tube name m
listed name m = grind (arith, common_steps, any_fold, any-jobs, any-seats)
