use Rattle.std.proofs.lemmas.Grind.{common_steps}
use Rattle.std.proofs.Common.{arith}
use Rattle.bq_index.proofs.Parts.{as_many}
use Rattle.bq_index.proofs.walk.+list.Goals as goal

pub list-requires : goal.list-requires
list-requires g t c = grind (arith, as_many c.in-Some.ensures.parts)

pub push_reserved-requires : goal.push_reserved-requires
push_reserved-requires g t c = grind (arith, common_steps)

pub list-requires-2 : goal.list-requires-2
list-requires-2 g t c = grind (arith, as_many c.in-Some.ensures.parts)

pub returns-clause-items : goal.returns-clause-items
returns-clause-items g t c = grind (arith, common_steps)

pub returns-clause-len : goal.returns-clause-len
returns-clause-len g t c = grind (arith, common_steps)
