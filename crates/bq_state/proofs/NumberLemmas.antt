-- The numbers of tubes, as the ends of their pauses have them.
use Rattle.std.proofs.Common.{List, None, Option, Some, [], ap, arith, false, is_some, map, refl, true, ℕ, ◌∙◌, ◌∷◌, ◌≡◌, rules}
use Rattle.std.proofs.lemmas.{Bool.cases_Bool, Cmp.nat_list_eq_equiv, Grind.common_steps}
use Rattle.std.specs.{BTreeMap.insert_entry, Borrow.Bor, Cmp.Lexicographic.slice_cmp, List.AllByRecursion as All}
use Rattle.std.specs.{Option.option_map, Prelude.IsSome}
use Rattle.std.specs.{Map.{lookup, remove_entry}, Ordering.{match_ordering, nat_cmp}}
use Rattle.std.specs.declared.cmp.Ordering.{Ordering}
use Rattle.bq_job.proofs.ListLemmas.{all_from_members, all_weaker, list_any_with}
use Rattle.bq_job.specs.{machine.TubeRecord, reading.TubeName.is_same_name}
use Rattle.bq_jobs.specs.{Names.number_in, Numbering.name_of, Table.Tabled}
use Rattle.bq_state.proofs.{NamedLemmas.{have_numbers, ties}, TubeLemmas.{same_itself, same_name}}
use Rattle.bq_state.specs.{PauseEnds.{AreApart, as_number, is_end_in, number_at}, TubesSeen.{EntrySeen, is_named_at, record_at}}
use Rattle.bq_state.specs.declared.tubes.pauses.PauseEnd.{PauseEnd}

-- another tube keeps its number if this one is removed or added
module _ (name k : List ℕ) (other : is_same_name name k ≡ false) where
  found_left : (ns : List (List ℕ × ℕ)) → lookup (is_named_at k) (remove_entry (is_named_at name) ns) ≡ lookup (is_named_at k) ns
  found_left [] = refl
  found_left (p ∷ ns) = grind (arith, ties, same_name, found_left ns)

  pub number_left : (ns : List (List ℕ × ℕ)) → number_at k (remove_entry (is_named_at name) ns) ≡ number_at k ns
  unfolding number_at
  number_left ns = ap as_number (found_left ns)

  inserted_at : (n : ℕ) (p : List ℕ × ℕ) (ns rest : List (List ℕ × ℕ)) (a : Ordering) → slice_cmp nat_cmp name p.0 ≡ a
      → lookup (is_named_at k) rest ≡ lookup (is_named_at k) ns
      → lookup (is_named_at k) (match_ordering a ((name, n) ∷ p ∷ ns) ((p.0, n) ∷ ns) (p ∷ rest)) ≡ lookup (is_named_at k) (p ∷ ns)
  inserted_at n p ns rest a is h = search (rules, cases_Bool, ties, same_name)

  found_inserted : (n : ℕ) (ns : List (List ℕ × ℕ))
      → lookup (is_named_at k) (insert_entry (slice_cmp nat_cmp) ns name n) ≡ lookup (is_named_at k) ns
  found_inserted n [] = grind (arith, ties k name, nat_list_eq_equiv.symm name k)
  found_inserted n (p ∷ ns) = inserted_at n p ns _ (slice_cmp nat_cmp name p.0) refl (found_inserted n ns)

  pub number_inserted : (n : ℕ) (ns : List (List ℕ × ℕ)) → number_at k (insert_entry (slice_cmp nat_cmp) ns name n) ≡ number_at k ns
  unfolding number_at
  number_inserted n ns = ap as_number (found_inserted n ns)

-- a tube that was added has its number
module _ (name : List ℕ) (n : ℕ) where
  pub number_given : (ns : List (List ℕ × ℕ)) → lookup (is_named_at name) (insert_entry (slice_cmp nat_cmp) ns name n) ≡ Some n
  number_given [] = grind (arith, ties name name, same_itself name)
  number_given (p ∷ ns) = grind (arith, ties, same_itself, number_given ns)

-- This tube has the same number as the one with this name only if it is that one.
abbrev pub IsTold : List (List ℕ × ℕ) → List ℕ → TubeRecord → Type 0
IsTold numbers name t = is_same_name (number_at name numbers) (number_at t.name numbers) ≡ is_same_name name t.name

-- The tubes have numbers of their own.
abbrev pub AreTold : Tabled EntrySeen → Type 0
AreTold kept = (name : List ℕ) → All (IsTold kept.tubes.numbers name) (map record_at kept.entries)

-- the numbers of the tubes of a table
module _ (kept : Tabled EntrySeen) (apart : AreApart kept) where
  has_name : (name : List ℕ) (n : ℕ) → lookup (is_named_at name) kept.tubes.numbers ≡ Some n → name_of n kept.tubes ≡ Some name
  has_name name n found = apart.paired.there name n found

  found_alike : (a b : List ℕ) → is_same_name a b ≡ true → lookup (is_named_at a) kept.tubes.numbers
      ≡ lookup (is_named_at b) kept.tubes.numbers
  found_alike a b h = ap (λ name. lookup (is_named_at name) kept.tubes.numbers) (same_name a b h)

  told_by : (name other : List ℕ) (a b : Option ℕ) → lookup (is_named_at name) kept.tubes.numbers ≡ a
      → lookup (is_named_at other) kept.tubes.numbers ≡ b → is_some b ≡ true
      → is_same_name (as_number a) (as_number b) ≡ is_same_name name other
  told_by name other a None is has some = absurd cc
  told_by name other None (Some n) is has some = grind (arith, found_alike)
  told_by name other (Some m) (Some n) is has some =
      grind (arith, common_steps, found_alike, same_name, has_name name m is, has_name other n has, same_itself name)

  all_numbered : All (λ t. is_some (lookup (is_named_at t.name) kept.tubes.numbers) ≡ true) (map record_at kept.entries)
  all_numbered = all_from_members _ (map record_at kept.entries) (λ t here.
      have_numbers kept.entries kept.tubes.numbers apart.keys t.name
      ∙ list_any_with (λ (u : TubeRecord). is_same_name t.name u.name) (map record_at kept.entries) t here (same_itself t.name))

  -- Each tube has a number of its own.
  pub told : AreTold kept
  unfolding number_at
  told name = grind (arith, all_weaker, told_by, all_numbered)

  end_there : (e : PauseEnd) (ts : List TubeRecord) → All (λ t. is_some (lookup (is_named_at t.name) kept.tubes.numbers) ≡ true) ts
      → is_end_in kept.tubes.numbers e ts ≡ true → (is_some (name_of (number_in e.number) kept.tubes) ≡ true) × (e.number
      ≡ number_in e.number ∷ [])
  unfolding number_at
  end_there e [] all held = absurd cc
  end_there e (t ∷ ts) all held = grind (arith, same_name, end_there e ts all.1)

  -- The number of an end is that of a tube,
  pub end_numbered : (e : PauseEnd) (r : Option (Bor (List ℕ))) → is_end_in kept.tubes.numbers e (map record_at kept.entries) ≡ true
      → option_map (λ name. name.now) r ≡ name_of (number_in e.number) kept.tubes → IsSome r
  end_numbered e r held named = grind (arith, common_steps, end_there e (map record_at kept.entries) all_numbered held)

  -- whose name is found by it.
  pub number_is : (e : PauseEnd) (name : List ℕ) → is_end_in kept.tubes.numbers e (map record_at kept.entries) ≡ true
      → name_of (number_in e.number) kept.tubes ≡ Some name → e.number ≡ number_at name kept.tubes.numbers
  unfolding number_at
  number_is e name held of = grind (arith, end_there, all_numbered)

-- the number of a tube that was looked up
pub number_read : (name : List ℕ) (numbers : List (List ℕ × ℕ)) (n : List ℕ) → n ≡ number_in n ∷ []
    → Some (number_in n) ≡ lookup (is_named_at name) numbers → n ≡ number_at name numbers
unfolding number_at
number_read name numbers n alone found = alone ∙ ap as_number found
