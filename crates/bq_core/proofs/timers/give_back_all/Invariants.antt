-- what the turns so far left to do, and how many searches they made
use Rattle.std.proofs.Common.{◌*◌, ◌-◌, ◌≡◌, ◌≤◌}
use Rattle.bq_core.specs.FiredTimers.{after_giving_back}
use Rattle.bq_job.specs.machine.{is_held_by}
use Rattle.bq_jobs.specs.Searching.{Asks}
use Rattle.bq_state.specs.CoreParts.{count_jobs, machine_of}
use Rattle.bq_core.proofs.timers.give_back_all.Given as goal

abbrev pub invariant-loop-id : goal.invariant-loop-id
invariant-loop-id l = record {
  left : after_giving_back l.becomes l.seat (machine_of l.state) ≡ after_giving_back l.becomes l.seat (machine_of l.fn.state);
  asks : Asks (9 * (count_jobs (is_held_by l.seat) l.fn.state - count_jobs (is_held_by l.seat) l.state))
      l.fn.state.store.jobs l.state.store.jobs;
  fewer : count_jobs (is_held_by l.seat) l.state ≤ count_jobs (is_held_by l.seat) l.fn.state;
}

abbrev pub decreases-loop-id : goal.decreases-loop-id
decreases-loop-id l = count_jobs (is_held_by l.seat) l.state
