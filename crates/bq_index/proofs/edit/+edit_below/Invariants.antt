use Rattle.bq_index.specs.Tree.{height_in}
use Rattle.bq_index.proofs.edit.+edit_below.Given as goal

abbrev pub decreases-edit_below : goal.decreases-edit_below
decreases-edit_below g l = height_in l.node.now
