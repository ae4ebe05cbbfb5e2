use Rattle.std.proofs.Common.{arith}
use Rattle.std.proofs.lemmas.Grind.{common_steps}
use Rattle.bq_index.proofs.Traded.{first_traded}
use Rattle.bq_index.proofs.remove.+take_first.Goals as goal

pub returns-then-low-eq0 : goal.returns-then-low-eq0
returns-then-low-eq0 g t c =
    grind (arith, first_traded c.args.here.now c.trade.new.here c.trade.result.0.value c.trade.result.1 c.requires.0)

pub mend-changed-requires-clause-kept : goal.mend-changed-requires-clause-kept
mend-changed-requires-clause-kept g t c = grind (arith, common_steps)
