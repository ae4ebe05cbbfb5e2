-- what the turns so far gave, and how many searches they made
use Rattle.std.proofs.Common.{length, ◌*◌, ◌+◌, ◌-◌}
use Rattle.bq_core.specs.Turns.{Gives, HasRoom}
use Rattle.bq_job.specs.{beside.waiting_count, machine.{DispatchTurn, has_refused_share}}
use Rattle.bq_jobs.specs.Searching.{Asks}
use Rattle.bq_state.specs.{CoreParts.machine_of, Cost.waited}
use Rattle.bq_core.proofs.dispatch.dispatch_all.Given as goal

abbrev pub invariant-loop-id : goal.invariant-loop-id
invariant-loop-id l = record {
  given : Gives DispatchTurn has_refused_share (machine_of l.fn.state) (machine_of l.state) l.fn.outs l.outs;
  asks : Asks ((length l.outs.given - length l.fn.outs.given) * (waited (machine_of l.fn.state) + 9))
      l.fn.state.store.jobs l.state.store.jobs;
  room : HasRoom 0 (machine_of l.state) l.outs;
}

abbrev pub decreases-loop-id : goal.decreases-loop-id
decreases-loop-id l = waiting_count (machine_of l.state)
