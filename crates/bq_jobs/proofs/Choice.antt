-- Entries in the order of their keys: lookups after a change, and the first entry from a key on.
use Rattle.std.proofs.lemmas.Grind.{common_steps}
use Rattle.std.proofs.Common.{◌≡◌, ℕ, true, false, cond, List, [], ◌∷◌, Some, None, arith, refl, sym, ap, ◌∙◌}
use Rattle.std.specs.Prelude.{is_some}
use Rattle.std.specs.declared.cmp.Ordering.{Ordering}
use Rattle.std.specs.declared.cmp.Ordering.TheVariants.{Less, Equal}
use Rattle.std.specs.Cmp.{Equal-is, IsTotalOrder, eq_by_cmp_equiv, tied_then, unsigned_tied}
use Rattle.std.specs.Ordering.{is_eq, is_gt, nat_cmp, ordering_then}
use Rattle.std.specs.List.{AllByRecursion as All}
use Rattle.std.specs.List.Sorted.{IsStrictlySortedBy}
use Rattle.std.specs.Map.{keys_of, lookup, remove_entry}
use Rattle.std.specs.BTreeMap.{is_at, insert_entry}
use Rattle.std.proofs.lemmas.Bool.{and_parts, eqb-true}
use Rattle.std.proofs.lemmas.Cmp.{alike_right}
use Rattle.std.proofs.lemmas.Map.{lookup-remove_entry}
use Rattle.std.proofs.lemmas.Map.Keys.{IsDistinct-from_sorted}
use Rattle.bq_index.specs.Order.{InOrder, entry_from}
use Rattle.bq_job.specs.machine.Changes.{is_pair_before}

-- the comparison that a test confirms
pub equal_from : (a : Ordering) → is_eq a ≡ true → a ≡ Equal
equal_from a h = (Equal-is a).0 h

-- two comparisons, the second one for ties
pub then_equal_first : (a b : Ordering) → ordering_then a b ≡ Equal → a ≡ Equal
then_equal_first a b h = equal_from a ((and_parts (is_eq a) (is_eq b) (tied_then a b ∙ ap is_eq h)).0)

pub then_equal_second : (a b : Ordering) → ordering_then a b ≡ Equal → b ≡ Equal
then_equal_second a b h = equal_from b ((and_parts (is_eq a) (is_eq b) (tied_then a b ∙ ap is_eq h)).1)

pub numbers_tie : (a b : ℕ) → nat_cmp a b ≡ Equal → a ≡ b
numbers_tie a b h = eqb-true a b (sym (unsigned_tied a b) ∙ ap is_eq h)

-- The order of pairs agrees with the comparison of pairs.
pub pair_not_after : (a i b j : ℕ) → is_gt (ordering_then (nat_cmp a b) (nat_cmp i j)) ≡ false → is_pair_before b j a i ≡ false
pair_not_after a i b j h = grind (arith, common_steps)

module _ {K V : Type 0} {R : K → K → Ordering} (o : IsTotalOrder R) where
  -- lookup after an insertion
  pub lookup_inserted : (q p : K) (v : V) (es : List (K × V)) → lookup (is_at (R p)) es ≡ None
      → lookup (is_at (R q)) (insert_entry R es p v) ≡ cond (is_eq (R q p)) (Some v) (lookup (is_at (R q)) es)
  lookup_inserted q p v [] absent = refl
  lookup_inserted q p v (e ∷ es) absent = grind (arith, lookup_inserted q p v es)

  -- lookup after a removal
  pub lookup_removed : (q p : K) (es : List (K × V)) → InOrder R es
      → lookup (is_at (R q)) (remove_entry (is_at (R p)) es) ≡ cond (is_eq (R p q)) None (lookup (is_at (R q)) es)
  lookup_removed q p es s =
      let laws = eq_by_cmp_equiv o in
      lookup-remove_entry laws (is_at (R p)) (λ x y h. laws.congr p x y h) q es (IsDistinct-from_sorted R (keys_of es) s)

  -- If all keys are above x, so is every key that is found.
  found_above : (x q : K) (es : List (K × V)) → All (λ k. R x k ≡ Less) (keys_of es)
      → is_some (lookup (is_at (R q)) es) ≡ true → R x q ≡ Less
  found_above x q [] a h = absurd cc
  found_above x q (e ∷ es) a h = grind (arith, alike_right o q e.0 x, equal_from, found_above x q es a.1)

  -- if there is no entry from f on, every key that is found is below f
  pub found_below : (f q : K) (es : List (K × V)) → entry_from (R f) es ≡ None → is_some (lookup (is_at (R q)) es) ≡ true
      → is_gt (R f q) ≡ true
  found_below f q [] n h = absurd cc
  found_below f q (e ∷ es) n h = grind (arith, alike_right o q e.0 f, equal_from, found_below f q es)

  -- The first entry from f on is not below f, it is found, and no key from f on that is found is
  -- below it.
  pub from_not_below : (f : K) (e : K × V) (es : List (K × V)) → entry_from (R f) es ≡ Some e → is_gt (R f e.0) ≡ false
  from_not_below f e [] h = absurd cc
  from_not_below f e (x ∷ es) h = grind (arith, from_not_below f e es)

  pub from_found : (f : K) (e : K × V) (es : List (K × V)) → entry_from (R f) es ≡ Some e → is_some (lookup (is_at (R e.0)) es) ≡ true
  from_found f e [] h = absurd cc
  from_found f e (x ∷ es) h = grind (arith, from_found f e es)

  pub from_least : (f q : K) (e : K × V) (es : List (K × V)) → InOrder R es → entry_from (R f) es ≡ Some e
      → is_some (lookup (is_at (R q)) es) ≡ true → is_gt (R f q) ≡ false → is_gt (R e.0 q) ≡ false
  unfolding IsStrictlySortedBy
  from_least f q e [] s n h l = absurd cc
  from_least f q e (x ∷ es) s n h l = grind (arith, found_above, alike_right o q x.0 f, equal_from, from_least f q e es s.1)
