use Rattle.std.proofs.Common.{◌≡◌, ◌≤◌}
use Rattle.std.specs.Prelude.{replicate}
use Rattle.bq_index.specs.declared.tree.Tree.TheVariants.{Leaf}
use Rattle.bq_index.proofs.shelves.empty_trees.Given as goal

abbrev pub invariant-loop : goal.invariant-loop
invariant-loop g l = record {
  made : l.trees.items ≡ replicate l.counter Leaf;
  within : l.counter ≤ l.fn.count;
}
