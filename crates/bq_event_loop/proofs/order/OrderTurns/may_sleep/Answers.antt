use Rattle.std.proofs.Common.{◌≡◌, false, ap, subst}
use Rattle.bq_event_loop.specs.Known.{is_on}
use Rattle.bq_event_loop.proofs.order.OrderTurns.may_sleep.Goals as goal

pub returns-clause-checks : goal.returns-clause-checks
returns-clause-checks c idle come seat =
    subst (λ f. is_on f seat ≡ false) (ap (λ l. l.free) c.begin_round.ensures) (c.is_idle.ensures.checks idle come seat)
