use Rattle.std.proofs.Common.{arith}
use Rattle.std.proofs.lemmas.Grind.{common_steps}
use Rattle.bq_index.proofs.rotation.turn_left.Goals as goal

-- `grind` proves this at once; without an answer, a search fails first, which takes seconds.
pub returns-else-height-low : goal.returns-else-height-low
returns-else-height-low g c = grind (arith, common_steps)
