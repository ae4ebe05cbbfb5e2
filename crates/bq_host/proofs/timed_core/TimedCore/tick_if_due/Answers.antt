use Rattle.bq_host.proofs.timed_core.TimedCore.tick_if_due.Goals as goal

pub returns-then-may_tick-clause-ticked : goal.returns-then-may_tick-clause-ticked
returns-then-may_tick-clause-ticked g c = λ e.
    let h = c.is_due.ensures.heard c.if-not-is_due.false in
    (h.0, h.1, c.tick.ensures.ticked h.0 h.2)
