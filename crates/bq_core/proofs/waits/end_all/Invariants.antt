-- what the checks so far gave, and how many searches they made
use Rattle.std.proofs.Common.{◌-◌, ◌≤◌}
use Rattle.bq_core.specs.Turns.{Gives, HasRoom, none_refused}
use Rattle.bq_job.specs.{beside.waiting_count, machine.WaitEndTurn}
use Rattle.bq_jobs.specs.Searching.{Asks}
use Rattle.bq_state.specs.{CoreParts.machine_of, EndingWaits.{AreChecked, left_after}}
use Rattle.bq_core.proofs.waits.end_all.Given as goal

abbrev pub invariant-loop-k : goal.invariant-loop-k
invariant-loop-k l = record {
  given : Gives WaitEndTurn none_refused (machine_of l.fn.state) (machine_of l.state) l.fn.outs l.outs;
  looked : AreChecked (machine_of l.state) l.last;
  fewer : left_after l.last (machine_of l.state) ≤ waiting_count (machine_of l.fn.state);
  asks : Asks (waiting_count (machine_of l.fn.state) - left_after l.last (machine_of l.state)) l.fn.state.store.jobs l.state.store.jobs;
  room : HasRoom 0 (machine_of l.state) l.outs;
}

abbrev pub decreases-loop-k : goal.decreases-loop-k
decreases-loop-k l = left_after l.last (machine_of l.state)
