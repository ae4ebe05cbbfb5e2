use Rattle.std.proofs.Common.{◌≡◌, ◌+◌, ◌≤◌, length}
use Rattle.std.specs.Option.{option_map, option_or}
use Rattle.bq_index.specs.Order.{InOrder, entry_from}
use Rattle.bq_index.specs.Tree.{entries_of, height_of, lent, IsBalancedFrom}
use Rattle.bq_index.proofs.find.next_from.Given as goal

abbrev pub invariant-loop-below : goal.invariant-loop-below
invariant-loop-below g l = record {
  balanced : IsBalancedFrom (lent l.below);
  in_order : InOrder g.K.Ord.cmp (entries_of (lent l.below));
  same : entry_from (g.K.Ord.cmp l.key) (entries_of (lent l.fn.tree))
      ≡ option_or (entry_from (g.K.Ord.cmp l.key) (entries_of (lent l.below))) (option_map (λ p. (p.0.now, p.1.now)) l.above);
  more : l.fn.count ≤ l.count;
  few : l.count + height_of (lent l.below) ≤ l.fn.count + height_of (lent l.fn.tree);
}

abbrev pub decreases-loop-below : goal.decreases-loop-below
decreases-loop-below g l = length (entries_of (lent l.below))
