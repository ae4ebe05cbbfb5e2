-- what the turns so far left to fire, and how many searches they made
use Rattle.std.proofs.Common.{◌*◌, ◌-◌, ◌≡◌, ◌≤◌}
use Rattle.bq_core.specs.FiredTimers.{after_job_timers, has_due_timer}
use Rattle.bq_jobs.specs.Searching.{Asks}
use Rattle.bq_state.specs.CoreParts.{count_jobs, machine_of}
use Rattle.bq_core.proofs.timers.fire_jobs.Given as goal

abbrev pub invariant-loop-due : goal.invariant-loop-due
invariant-loop-due l = record {
  left : after_job_timers (machine_of l.state) ≡ after_job_timers (machine_of l.fn.state);
  asks : Asks (10 * (count_jobs (has_due_timer l.fn.state.moment) l.fn.state - count_jobs (has_due_timer l.fn.state.moment) l.state))
      l.fn.state.store.jobs l.state.store.jobs;
  fewer : count_jobs (has_due_timer l.fn.state.moment) l.state ≤ count_jobs (has_due_timer l.fn.state.moment) l.fn.state;
}

abbrev pub decreases-loop-due : goal.decreases-loop-due
decreases-loop-due l = count_jobs (has_due_timer l.fn.state.moment) l.state
