-- What a walk over the tubes of a table shows, from a walk over the tubes and their numbers.
use Rattle.std.proofs.Common.{◌≡◌, ℕ, arith, Bool, List, [], ◌∷◌, Option, fold, refl, ap, ◌∙◌}
use Rattle.std.specs.Prelude.{filter, find, slice_get, option_and_then}
use Rattle.std.specs.Cmp.Lexicographic.{slice_cmp}
use Rattle.std.specs.Map.{keys_of}
use Rattle.std.specs.Ordering.{nat_cmp}
use Rattle.std.proofs.lemmas.Grind.{common_steps}
use Rattle.bq_index.specs.Walk.{passes_by, passes_from, seen_by}
use Rattle.bq_jobs.specs.FreeNumbers.{SlotState, values_in}
use Rattle.bq_jobs.specs.Table.{Tabled, entries_at, passes_if, table_seen, valued_in, visited}

module _ {V : Type 0} (vs : List V) where
  -- A test of tubes and numbers that passes where a test of tubes and values does finds the same tube.
  pub find_valued : (number : List ℕ × ℕ → Bool) (value : List ℕ × V → Bool)
      → ((p : List ℕ × ℕ) → number p ≡ passes_if (λ v. value (p.0, v)) (slice_get vs p.1)) → (ps : List (List ℕ × ℕ))
      → option_and_then (valued_in vs) (find number ps) ≡ find value (entries_at ps vs)
  find_valued number value same [] = refl
  find_valued number value same (p ∷ ps) = grind (arith, find_valued number value same ps)

  module _ (passed : List ℕ → V → Bool) where
    -- the first from a name on
    pub from_valued : (from : List ℕ) (ps : List (List ℕ × ℕ))
        → option_and_then (valued_in vs)
        (find (passes_from (slice_cmp nat_cmp from) (λ name n. passes_if (passed name) (slice_get vs n))) ps)
        ≡ find (passes_from (slice_cmp nat_cmp from) passed) (entries_at ps vs)
    from_valued from ps = grind (arith, find_valued)

    pub first_valued : (ps : List (List ℕ × ℕ))
        → option_and_then (valued_in vs) (find (passes_by (λ name n. passes_if (passed name) (slice_get vs n))) ps)
        ≡ find (passes_by passed) (entries_at ps vs)
    first_valued ps = find_valued (passes_by (λ name n. passes_if (passed name) (slice_get vs n))) (passes_by passed) (λ p. refl) ps

    -- the names of the tubes that pass
    pub keys_valued : (ps : List (List ℕ × ℕ))
        → keys_of (filter (passes_by (λ name n. passes_if (passed name) (slice_get vs n))) ps)
        ≡ keys_of (filter (passes_by passed) (entries_at ps vs))
    keys_valued [] = refl
    keys_valued (p ∷ ps) = grind (arith, common_steps, keys_valued ps)

  -- A visitor of tubes and numbers that shows another one the values leaves it as a walk over the values does.
  module _ {T A : Type 0} (after : T → List ℕ → V → T) (make : T → A) (step : A → List ℕ → ℕ → A)
      (shows : (t : T) (name : List ℕ) (n : ℕ) → step (make t) name n ≡ make (visited after t name (slice_get vs n))) where
    pub walk_valued : (ps : List (List ℕ × ℕ)) (t : T) → fold (seen_by step) (make t) ps ≡ make (fold (seen_by after) t (entries_at ps vs))
    walk_valued [] t = refl
    walk_valued (p ∷ ps) t = grind (arith, walk_valued ps (visited after t p.0 (slice_get vs p.1)))

-- The same of what a contract sees of a table, as its calls find it.
module _ {V : Type 0} (numbers : List (List ℕ × ℕ)) (slots us : List (SlotState V)) (t : Tabled V) (same : us ≡ slots)
    (is : table_seen numbers slots ≡ t) where
  pub seen_is : entries_at numbers (values_in us) ≡ t.entries
  seen_is = ap (λ ws. entries_at numbers (values_in ws)) same ∙ ap (λ (s : Tabled V). s.entries) is

  module _ (passed : List ℕ → V → Bool) (o : Option (List ℕ × ℕ)) (r : Option (List ℕ × V))
      (told : r ≡ option_and_then (valued_in (values_in us)) o) where
    pub first_told : o ≡ find (passes_by (λ name n. passes_if (passed name) (slice_get (values_in us) n))) numbers
        → r ≡ find (passes_by passed) t.entries
    first_told found = grind (arith, first_valued (values_in us) passed numbers, seen_is)

    pub from_told : (from : List ℕ)
        → o ≡ find (passes_from (slice_cmp nat_cmp from) (λ name n. passes_if (passed name) (slice_get (values_in us) n))) numbers
        → r ≡ find (passes_from (slice_cmp nat_cmp from) passed) t.entries
    from_told from found = grind (arith, from_valued (values_in us) passed from numbers, seen_is)
