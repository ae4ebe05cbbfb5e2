-- the earliest moment so far
use Rattle.std.proofs.Common.{None, fold, take, ◌≡◌}
use Rattle.bq_jobs.specs.Searching.{Asks}
use Rattle.bq_state.specs.{Dues.with_warning_due, WaitingList.at_waiter}
use Rattle.bq_core.proofs.timers.first_warning.Given as goal

abbrev pub invariant-loop-i : goal.invariant-loop-i
invariant-loop-i l = record {
  best : l.best ≡ fold (at_waiter (with_warning_due l.fn.store.jobs.jobs) l.seats) None (take l.i l.waiters);
  asks : Asks l.i l.fn.store.jobs l.store.jobs;
  same : l.store ≡ record l.fn.store { jobs = record l.fn.store.jobs { comparisons = l.store.jobs.comparisons } };
}
