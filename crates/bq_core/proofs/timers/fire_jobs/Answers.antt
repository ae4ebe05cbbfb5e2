use Rattle.std.proofs.Common.{arith, ◌<◌}
use Rattle.bq_core.{proofs.{FiredTimerLemmas.{fewer_due, fired_one}}, specs.FiredTimers.has_due_timer}
use Rattle.bq_state.specs.CoreParts.{count_jobs}
use Rattle.bq_core.proofs.timers.fire_jobs.Goals as goal

pub loop-due-smaller : goal.loop-due-smaller
loop-due-smaller c = grind (arith, fewer_due)

pub loop-due-preserved : goal.loop-due-preserved
loop-due-preserved c =
    let was = c.loop-due.invariant in
    let found = c.in-Some.ensures in
    let falls : count_jobs (has_due_timer c.args.state.now.moment) c.fire_one.new.state
    < count_jobs (has_due_timer c.args.state.now.moment) c.loop-due.state = loop-due-smaller c in
    grind (arith, fired_one)
