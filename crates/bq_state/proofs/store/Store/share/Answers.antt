use Rattle.std.proofs.{Common.arith, lemmas.Grind.common_steps}
use Rattle.bq_state.proofs.store.Store.share.Goals as goal

pub returns-in_err-number-clause-kept : goal.returns-in_err-number-clause-kept
returns-in_err-number-clause-kept c = grind (arith, common_steps)

pub returns-clause-kept : goal.returns-clause-kept
returns-clause-kept c = grind (arith, common_steps)
