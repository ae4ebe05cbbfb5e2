use Rattle.std.proofs.Common.{length}
use Rattle.bq_index.specs.Tree.{entries_of, lent}
use Rattle.bq_index.proofs.walk.+list.Given as goal

abbrev pub decreases-list : goal.decreases-list
decreases-list g l = length (entries_of (lent l.tree))
