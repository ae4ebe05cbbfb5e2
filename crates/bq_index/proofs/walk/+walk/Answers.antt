use Rattle.std.proofs.Common.{arith}
use Rattle.std.proofs.lemmas.Grind.{common_steps}
use Rattle.bq_index.proofs.walk.+walk.Goals as goal

-- `grind` proves these at once; without an answer, a search fails first, which takes seconds.
pub walk-requires : goal.walk-requires
walk-requires g t c = grind (arith, common_steps)

pub walk-requires-2 : goal.walk-requires-2
walk-requires-2 g t c = grind (arith, common_steps)

pub returns : goal.returns
returns g t c = grind (arith, common_steps)
