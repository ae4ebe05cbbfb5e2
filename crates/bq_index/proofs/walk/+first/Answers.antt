use Rattle.std.proofs.Common.{arith}
use Rattle.std.proofs.lemmas.Grind.{common_steps}
use Rattle.bq_index.proofs.walk.+first.Goals as goal

pub first-requires : goal.first-requires
first-requires g t c = grind (arith, common_steps)

pub first-requires-else-passes : goal.first-requires-else-passes
first-requires-else-passes g t c = grind (arith, common_steps)
