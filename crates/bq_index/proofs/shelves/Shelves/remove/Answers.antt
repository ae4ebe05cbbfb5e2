use Rattle.std.proofs.Common.{arith, Some}
use Rattle.std.specs.BTreeMap.{is_at}
use Rattle.bq_index.specs.Shelves.{entries_over}
use Rattle.bq_index.proofs.{Order.{length_lost}, Spread.{whole_after}}
use Rattle.bq_index.proofs.shelves.Shelves.remove.Goals as goal

pub invariant_of-self-2 : goal.invariant_of-self-2
invariant_of-self-2 g c =
    let fewer = length_lost (is_at (g.K.Ord.cmp c.args.key.now)) (entries_over c.self.inside.trees.items) (Some c.in_ok-value.value)
    (rw c.in_ok-value.was at c.remove_at.ensures.value) in
    whole_after c.self.invariant c.remove_at.ensures.spread c.remove_at.ensures.as_many (grind arith) (grind arith)
