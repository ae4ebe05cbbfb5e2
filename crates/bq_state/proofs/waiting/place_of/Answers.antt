use Rattle.std.proofs.Common.{sym}
use Rattle.bq_state.proofs.WaitingLemmas.{all_before}
use Rattle.bq_state.proofs.waiting.place_of.Goals as goal

pub returns-then-ends_before : goal.returns-then-ends_before
returns-then-ends_before c = sym (all_before c.args.waiter c.args.waiters.now c.requires (sym c.if-ends_before.ensures))
