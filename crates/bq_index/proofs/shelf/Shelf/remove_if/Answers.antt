use Rattle.std.proofs.Common.{arith, refl, Some, subst, sym}
use Rattle.std.specs.BTreeMap.{is_at}
use Rattle.std.specs.Map.{lookup}
use Rattle.bq_index.proofs.Removed.{value_there}
use Rattle.bq_index.proofs.Order.{order_remove, length_removed}
use Rattle.bq_index.specs.{Order.{InOrder}, Tree.{entries}}
use Rattle.bq_index.proofs.shelf.Shelf.remove_if.Goals as goal

pub invariant_of-self-2 : goal.invariant_of-self-2
invariant_of-self-2 g c =
    let w = c.self.invariant in
    let gone = rw c.in_ok-value.was at c.remove_if.ensures.is in
    let h = value_there (g.T.Test.passed c.args.test.now c.args.key.now) (lookup (is_at (g.K.Ord.cmp c.args.key.now))
    (entries c.self.inside.tree)) c.in_ok-value.value (rw c.in_ok-value.was at c.remove_if.ensures.value) in
    let less = length_removed (is_at (g.K.Ord.cmp c.args.key.now)) (entries c.self.inside.tree)
    (Some (c.args.key.now, c.in_ok-value.value)) refl h in
    record {
      balanced = c.remove_if.ensures.balanced;
      in_order = subst (InOrder g.K.Ord.cmp) (sym gone)
          (order_remove g.K.Ord.cmp (is_at (g.K.Ord.cmp c.args.key.now)) (entries c.self.inside.tree) w.in_order);
      counted = grind arith;
      fits = grind (arith, c.remove_if.ensures.spare);
    }
