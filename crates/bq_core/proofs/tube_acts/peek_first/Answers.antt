use Rattle.std.proofs.Common.{arith}
use Rattle.bq_core.{proofs.FiredTimerLemmas.chosen}
use Rattle.bq_core.proofs.tube_acts.peek_first.Goals as goal

pub returns-in-Some-clause-reply : goal.returns-in-Some-clause-reply
returns-in-Some-clause-reply c s found = grind (arith, chosen _ _ _ _ _ _ c.args.state.now.sound.ids (c.in-Some.ensures.id s found))
