use Rattle.std.proofs.Common.{length}
use Rattle.bq_index.specs.Tree.{entries_of, lent}
use Rattle.bq_index.proofs.walk.+first.Given as goal

abbrev pub decreases-first : goal.decreases-first
decreases-first g l = length (entries_of (lent l.tree))
