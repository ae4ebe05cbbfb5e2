use Rattle.bq_index.specs.Tree.{height_in}
use Rattle.bq_index.proofs.remove.+remove_below.Given as goal

abbrev pub decreases-remove_below : goal.decreases-remove_below
decreases-remove_below g l = height_in l.here.now
