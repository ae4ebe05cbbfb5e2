use Rattle.std.proofs.Common.{length}
use Rattle.bq_index.specs.Tree.{entries_of, lent}
use Rattle.bq_index.proofs.walk.+walk.Given as goal

abbrev pub decreases-walk : goal.decreases-walk
decreases-walk g l = length (entries_of (lent l.tree))
