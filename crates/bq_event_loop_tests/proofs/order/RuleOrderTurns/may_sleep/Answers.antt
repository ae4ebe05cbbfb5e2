use Rattle.std.proofs.Common.{◌≡◌, true, false}
use Rattle.bq_event_loop_tests.proofs.order.RuleOrderTurns.may_sleep.Goals as goal

pub returns-clause-busy : goal.returns-clause-busy
returns-clause-busy c busy idle =
    let e : true ≡ false = idle.acts 0 in
    absurd cc
