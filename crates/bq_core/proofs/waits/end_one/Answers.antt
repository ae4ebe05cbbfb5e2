use Rattle.std.proofs.Common.{arith}
use Rattle.bq_core.{proofs.WaitLemmas.told_is}
use Rattle.bq_state.specs.CoreParts.{machine_of}
use Rattle.bq_core.proofs.waits.end_one.Goals as goal

pub returns-in-Some-clause-looked : goal.returns-in-Some-clause-looked
returns-in-Some-clause-looked c s found waits =
    grind (arith, told_is (machine_of c.args.state.now) s c.in-Some.answer waits (c.in-Some.ensures.told s found))
