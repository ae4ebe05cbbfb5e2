use Rattle.std.proofs.Common.{arith}
use Rattle.std.{proofs.Common.{sym}}
use Rattle.bq_core.proofs.FiredTimerLemmas.{nobody_ends, none_ends}
use Rattle.bq_state.specs.{CoreParts.{machine_of}}
use Rattle.bq_core.proofs.waits.may_end.Goals as goal

pub returns-then-not-has_waiter-clause-none : goal.returns-then-not-has_waiter-clause-none
returns-then-not-has_waiter-clause-none c _ = nobody_ends (machine_of c.args.state.now) (sym c.if-not-has_waiter.ensures)

pub returns-clause-none : goal.returns-clause-none
returns-clause-none c none = grind (arith, none_ends (machine_of c.args.state.now) (sym c.if-is_some_wait_over.ensures.over))
