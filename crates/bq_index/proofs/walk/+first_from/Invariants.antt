use Rattle.std.proofs.Common.{length}
use Rattle.bq_index.specs.Tree.{entries_of, lent}
use Rattle.bq_index.proofs.walk.+first_from.Given as goal

abbrev pub decreases-first_from : goal.decreases-first_from
decreases-first_from g l = length (entries_of (lent l.tree))
