-- A side that is a single box or nothing.
use Rattle.std.proofs.Common.{◌≡◌, ◌≤◌, Bool, true, [], ◌++◌, Option, Some, arith}
use Rattle.std.specs.{Option.option_map, Prelude.is_some}
use Rattle.std.specs.declared.cmp.Ordering.{Ordering}
use Rattle.std.specs.declared.cmp.Ordering.TheVariants.{Less, Equal, Greater}
use Rattle.std.specs.Ordering.{is_eq}
use Rattle.std.specs.Map.{lookup}
use Rattle.std.specs.BTreeMap.{is_at}
use Rattle.bq_index.specs.{Order.{LacksKeyOf, with_entry}, Removed.{lookup_if, removed_if}}
use Rattle.bq_index.specs.Tree.{entries_in, entries_of, entry_in, height_in, height_of, Comparison, ComparisonOfEntries}
use Rattle.bq_index.specs.Tree.{IsBalancedFrom, IsLevel}
use Rattle.bq_index.specs.declared.tree.Node.{Node}

-- A comparison with the key of a single box tells whether it has the key.
pub answer_of : {K V : Type 0} (R : K → K → Ordering) (k : K) (n : Node K V) (a : Ordering) (c : Bool) → IsLevel n → height_in n ≡ 1
    → Comparison R k (entry_in n) a → c ≡ is_eq a → c ≡ is_some (lookup (is_at (R k)) (entries_in n))
answer_of R k n a c h5 h6 h7 h8 = grind arith

module _ {K V : Type 0} (test : K → Bool) where
  -- If a side has the key, it is a box, and nothing is left of it without the key.
  pub height_if_found : (o : Option (Node K V)) → IsBalancedFrom o → height_of o ≤ 1 → true ≡ is_some (lookup test (entries_of o))
      → height_of o ≡ 1
  height_if_found o h1 h2 h3 = grind arith

  pub none_left : (q : V → Bool) (o : Option (Node K V)) (n : Node K V) → IsBalancedFrom o → height_of o ≤ 1
      → true ≡ is_some (lookup_if test q (entries_of o)) → Some n ≡ o
      → removed_if test (option_map (λ e. e.1) (entry_in n)) (entries_of o) ≡ []
  none_left q o n h1 h2 h3 h4 = grind arith

-- two single boxes, by how their keys compare: the first one is added to the second one
module _ {K V : Type 0} (R : K → K → Ordering) (n m : Node K V) (a : Ordering) (l : IsLevel n) (s : height_in n ≡ 1) (i : IsLevel m)
    (j : height_in m ≡ 1) (h : ComparisonOfEntries R (entry_in n) (entry_in m) a) where
  pub lower_first : a ≡ Less → entries_in n ++ entries_in m ≡ with_entry R (entry_in n) (entries_in m)
  lower_first e = grind arith

  pub higher_last : a ≡ Greater → entries_in m ++ entries_in n ≡ with_entry R (entry_in n) (entries_in m)
  higher_last e = grind arith

  pub not_equal : LacksKeyOf R (entry_in n) (entries_in m) → a ≡ Equal → ⊥
  not_equal k e = grind arith
