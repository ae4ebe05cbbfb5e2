use Rattle.bq_index.specs.Tree.{height_in}
use Rattle.bq_index.proofs.insert.+insert_below.Given as goal

abbrev pub decreases-insert_below : goal.decreases-insert_below
decreases-insert_below g l = height_in l.here.now
