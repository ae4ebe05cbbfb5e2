-- A value for each registered tube: what a look-up and a change of it are.
use Rattle.std.proofs.lemmas.Grind.{common_steps}
use Rattle.std.proofs.Common.{◌≡◌, ◌≤◌, ◌<◌, ℕ, zero, suc, Bool, true, false, List, [], ◌∷◌, length, get_or}
use Rattle.std.proofs.Common.{Option, Some, None, arith, refl, ap, ◌∙◌}
use Rattle.std.specs.Prelude.{◌==◌, slice_get, option_and_then}
use Rattle.std.specs.BTreeMap.{is_at, insert_entry}
use Rattle.std.specs.Cmp.Lexicographic.{slice_cmp}
use Rattle.std.specs.List.{AllByRecursion}
use Rattle.std.specs.List.Sorted.{IsStrictlySortedBy}
use Rattle.std.specs.Map.{keys_of, lookup, remove_entry, set_value}
use Rattle.std.specs.Option.{option_map}
use Rattle.std.specs.Ordering.{is_eq, nat_cmp}
use Rattle.std.specs.declared.cmp.Ordering.TheVariants.{Less}
use Rattle.std.proofs.lemmas.Bool.{cases_Bool}
use Rattle.std.proofs.lemmas.Bool.Decides.{nat_tests}
use Rattle.bq_index.specs.Edited.{edited_at}
use Rattle.bq_index.specs.Order.{InOrder}
use Rattle.bq_jobs.specs.Numbering.{IsPaired, Numbering, name_of}
use Rattle.bq_jobs.specs.Table.{changed_at, entries_at, put_value, with_value}
use Rattle.bq_jobs.proofs.NumberingLemmas.{flip, lower, tie_names, tied_names}

-- each number has a value
abbrev pub AreValued : ℕ → List (List ℕ × ℕ) → Type 0
AreValued many ps = AllByRecursion (λ (p : List ℕ × ℕ). p.1 < many) ps

-- no tube has the number n
abbrev pub Lack : ℕ → List (List ℕ × ℕ) → Type 0
Lack n ps = AllByRecursion (λ (p : List ℕ × ℕ). (n == p.1) ≡ false) ps

-- no two tubes have the same number
abbrev pub AreApart : List (List ℕ × ℕ) → Type 0
AreApart [] = Unit {0}
AreApart (p ∷ ps) = Lack p.1 ps × AreApart ps

-- each tube is the one that its number names
abbrev pub AreThere : List (Option (List ℕ)) → List (List ℕ × ℕ) → Type 0
AreThere names ps = AllByRecursion (λ (p : List ℕ × ℕ). get_or names p.1 None ≡ Some p.0) ps

-- a key of which all of ps are above is none of theirs
above_none : (x q : List ℕ) (ps : List (List ℕ × ℕ)) → AllByRecursion (λ y. slice_cmp nat_cmp x y ≡ Less) (keys_of ps)
    → is_eq (slice_cmp nat_cmp q x) ≡ true → lookup (is_at (slice_cmp nat_cmp q)) ps ≡ None
above_none x q [] a t = refl
above_none x q (p ∷ ps) a t = grind (arith, tied_names q x t, above_none x q ps a.1 t)

module _ (names : List (Option (List ℕ))) where
  there_by : (ps : List (List ℕ × ℕ)) → InOrder (slice_cmp nat_cmp) ps
      → ((q : List ℕ) (n : ℕ) → lookup (is_at (slice_cmp nat_cmp q)) ps ≡ Some n → get_or names n None ≡ Some q) → AreThere names ps
  unfolding IsStrictlySortedBy
  there_by [] order there = tt
  there_by (p ∷ ps) order there = (
    grind (arith, there p.0 p.1, tie_names p.0 p.0 refl),
    there_by ps order.1 (λ q n own. grind (arith, above_none p.0 q ps order.0, there q n)),
  )

  valued_by : (ps : List (List ℕ × ℕ)) → AreThere names ps → AreValued (length names) ps
  valued_by [] there = tt
  valued_by (p ∷ ps) there = grind (arith, common_steps, valued_by ps there.1)

  -- a number that has no name belongs to no tube
  lacks_by : (n : ℕ) → get_or names n None ≡ None → (ps : List (List ℕ × ℕ)) → AreThere names ps → Lack n ps
  lacks_by n free [] there = tt
  lacks_by n free (p ∷ ps) there = grind (arith, lacks_by n free ps there.1)

  apart_from : (q : List ℕ) (n : ℕ) → get_or names n None ≡ Some q → (ps : List (List ℕ × ℕ)) → AreThere names ps
      → AllByRecursion (λ y. slice_cmp nat_cmp q y ≡ Less) (keys_of ps) → Lack n ps
  apart_from q n its [] there above = tt
  apart_from q n its (p ∷ ps) there above = grind (arith, tie_names q q refl, apart_from q n its ps there.1 above.1)

  apart_by : (ps : List (List ℕ × ℕ)) → InOrder (slice_cmp nat_cmp) ps → AreThere names ps → AreApart ps
  unfolding IsStrictlySortedBy
  apart_by [] order there = tt
  apart_by (p ∷ ps) order there = (apart_from p.0 p.1 there.0 ps there.1 order.0, apart_by ps order.1 there.1)

module _ (k : Numbering) (h : IsPaired k) where
  are_there : AreThere k.names k.numbers
  are_there = there_by k.names k.numbers h.by_name h.there

  pub are_valued : AreValued (length k.names) k.numbers
  are_valued = valued_by k.names k.numbers are_there

  pub are_apart : AreApart k.numbers
  are_apart = apart_by k.names k.numbers h.by_name are_there

  pub are_lacking : (n : ℕ) → name_of n k ≡ None → Lack n k.numbers
  are_lacking n free = lacks_by k.names n free k.numbers are_there

-- what a test finds is none that all lack
found_lacks : (test : List ℕ → Bool) (m n : ℕ) (ps : List (List ℕ × ℕ)) → Lack m ps → lookup test ps ≡ Some n → (m == n) ≡ false
found_lacks test m n [] lack own = absurd cc
found_lacks test m n (p ∷ ps) lack own = grind (arith, found_lacks test m n ps lack.1)

module _ {V : Type 0} where
  -- a number below the length has a value
  pub has_value : (vs : List V) (n : ℕ) → n < length vs → (v : V) × (slice_get vs n ≡ Some v)
  has_value [] n less = absurd (omega (arith, less))
  has_value (v ∷ vs) zero less = (v, refl)
  has_value (v ∷ vs) (suc n) less = has_value vs n (omega (arith, less))

  -- a test finds the value at the number that it finds
  pub looked_up : (test : List ℕ → Bool) (vs : List V) (ps : List (List ℕ × ℕ)) → AreValued (length vs) ps
      → lookup test (entries_at ps vs) ≡ option_and_then (slice_get vs) (lookup test ps)
  looked_up test vs [] all = refl
  looked_up test vs (p ∷ ps) all = grind (arith, has_value vs p.1 all.0, looked_up test vs ps all.1)

  pub same_keys : (vs : List V) (ps : List (List ℕ × ℕ)) → AreValued (length vs) ps → keys_of (entries_at ps vs) ≡ keys_of ps
  same_keys vs [] all = refl
  same_keys vs (p ∷ ps) all = grind (arith, has_value vs p.1 all.0, same_keys vs ps all.1)

  -- the entries are the same by two lists of values that have the same at the numbers of the tubes
  pub agreeing : (vs ws : List V) (ps : List (List ℕ × ℕ))
      → AllByRecursion (λ (p : List ℕ × ℕ). slice_get ws p.1 ≡ slice_get vs p.1) ps → entries_at ps ws ≡ entries_at ps vs
  agreeing vs ws [] all = refl
  agreeing vs ws (p ∷ ps) all = grind (arith, agreeing vs ws ps all.1)

  agree_by : (vs ws : List V) (n : ℕ) → ((m : ℕ) → (n == m) ≡ false → slice_get ws m ≡ slice_get vs m) → (ps : List (List ℕ × ℕ))
      → Lack n ps → AllByRecursion (λ (p : List ℕ × ℕ). slice_get ws p.1 ≡ slice_get vs p.1) ps
  agree_by vs ws n same [] lack = tt
  agree_by vs ws n same (p ∷ ps) lack = (same p.1 lack.0, agree_by vs ws n same ps lack.1)

  -- a value that is changed, and the others
  changed_here : (f : V → V) (vs : List V) (n : ℕ) → slice_get (changed_at f n vs) n ≡ option_map f (slice_get vs n)
  changed_here f [] n = refl
  changed_here f (v ∷ vs) zero = refl
  changed_here f (v ∷ vs) (suc n) = changed_here f vs n

  changed_other : (f : V → V) (vs : List V) (n m : ℕ) → (n == m) ≡ false → slice_get (changed_at f n vs) m ≡ slice_get vs m
  changed_other f [] n m e = refl
  changed_other f (v ∷ vs) zero zero e = absurd (let t : (0 == 0) ≡ true = grind (arith, nat_tests) in cc)
  changed_other f (v ∷ vs) zero (suc m) e = refl
  changed_other f (v ∷ vs) (suc n) zero e = refl
  changed_other f (v ∷ vs) (suc n) (suc m) e = changed_other f vs n m (lower n m e)

  -- a value that is put, and the others
  put_here : (vs : List V) (n : ℕ) (w : V) → n ≤ length vs → slice_get (put_value vs n w) n ≡ Some w
  put_here [] x w near = grind arith
  put_here (v ∷ vs) zero w near = refl
  put_here (v ∷ vs) (suc n) w near = put_here vs n w (omega (arith, near))

  put_others : (vs : List V) (n : ℕ) (w : V) → n ≤ length vs → (m : ℕ) → (n == m) ≡ false → slice_get (put_value vs n w) m ≡ slice_get vs m
  put_others [] x w near m e = grind arith
  put_others (v ∷ vs) zero w near x e = grind arith
  put_others (v ∷ vs) (suc n) w near zero e = refl
  put_others (v ∷ vs) (suc n) w near (suc m) e = put_others vs n w (omega (arith, near)) m (lower n m e)

  module _ (test : List ℕ → Bool) (f : V → V) (vs : List V) where
    edit_set : (ps : List (List ℕ × ℕ)) (n : ℕ) (v : V) → AreValued (length vs) ps → AreApart ps → lookup test ps ≡ Some n
        → slice_get vs n ≡ Some v → entries_at ps (changed_at f n vs) ≡ set_value test (entries_at ps vs) (f v)
    edit_set [] n v all apart own its = absurd cc
    edit_set (p ∷ ps) n v all apart own its =
        let own_value = has_value vs p.1 all.0 in
        let rest = edit_set ps n v all.1 apart.1 in
        grind (arith, common_steps, cases_Bool, changed_here, agreeing, agree_by, changed_other, found_lacks, flip, own_value, rest)

    pub edit_some : (ps : List (List ℕ × ℕ)) (n : ℕ) → AreValued (length vs) ps → AreApart ps → lookup test ps ≡ Some n
        → n < length vs → entries_at ps (changed_at f n vs) ≡ edited_at test f (entries_at ps vs)
    edit_some ps n all apart own less = grind (arith, common_steps, nat_tests, edit_set, looked_up, has_value vs n less)

  -- a tube that is added with its value
  module _ (name : List ℕ) (n : ℕ) (w : V) (vs : List V) (its : slice_get vs n ≡ Some w) where
    inserted_entries : (ps : List (List ℕ × ℕ)) → AreValued (length vs) ps
        → entries_at (insert_entry (slice_cmp nat_cmp) ps name n) vs ≡ insert_entry (slice_cmp nat_cmp) (entries_at ps vs) name w
    inserted_entries [] all = ap (λ o. with_value name o []) its
    inserted_entries (p ∷ ps) all = grind (arith, has_value vs p.1 all.0, inserted_entries ps all.1)

  pub inserted_at : (name : List ℕ) (n : ℕ) (w : V) (vs : List V) (ps : List (List ℕ × ℕ)) → n ≤ length vs → AreValued (length vs) ps
      → Lack n ps → entries_at (insert_entry (slice_cmp nat_cmp) ps name n) (put_value vs n w)
      ≡ insert_entry (slice_cmp nat_cmp) (entries_at ps vs) name w
  inserted_at name n w vs ps near all lack =
      inserted_entries name n w (put_value vs n w) (put_here vs n w near) ps (more_valued ps all)
      ∙ ap (λ es. insert_entry (slice_cmp nat_cmp) es name w) (agreeing _ _ ps (agree_by vs _ n (put_others vs n w near) ps lack))
    where
      longer : (us : List V) (m : ℕ) → length us ≤ length (put_value us m w)
      longer [] m = omega arith
      longer (u ∷ us) m = grind (arith, longer us)

      more_valued : (qs : List (List ℕ × ℕ)) → AreValued (length vs) qs → AreValued (length (put_value vs n w)) qs
      more_valued [] a = tt
      more_valued (q ∷ qs) a = grind (arith, longer vs n, more_valued qs a.1)

  -- a tube that is removed
  pub removed_entries : (test : List ℕ → Bool) (vs : List V) (ps : List (List ℕ × ℕ)) → AreValued (length vs) ps
      → entries_at (remove_entry test ps) vs ≡ remove_entry test (entries_at ps vs)
  removed_entries test vs [] all = refl
  removed_entries test vs (p ∷ ps) all = grind (arith, has_value vs p.1 all.0, removed_entries test vs ps all.1)
