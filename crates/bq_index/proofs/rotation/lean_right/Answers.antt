use Rattle.std.proofs.Common.{arith}
use Rattle.std.proofs.lemmas.Grind.{common_steps}
use Rattle.bq_index.proofs.rotation.lean_right.Goals as goal

-- `grind` proves these at once; without an answer, a search fails first, which takes seconds.
pub returns-then-height : goal.returns-then-height
returns-then-height g c = grind (arith, common_steps)

pub returns : goal.returns
returns g c = grind (arith, common_steps)
