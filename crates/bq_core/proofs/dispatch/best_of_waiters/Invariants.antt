-- the best of the turns so far
use Rattle.std.{proofs.Common.{None, take, ◌≡◌}, specs.{List.sum_by, Prelude.fold}}
use Rattle.bq_jobs.specs.Searching.{Asks}
use Rattle.bq_state.specs.{Offers.with_offers, TubesSeen.records, WaitingList.{by_seat, waited_at}}
use Rattle.bq_core.proofs.dispatch.best_of_waiters.Given as goal

abbrev pub invariant-loop-i : goal.invariant-loop-i
invariant-loop-i l = record {
  best : l.best ≡ fold (by_seat (with_offers l.fn.store.jobs.jobs (records l.fn.store.tubes)) l.seats) None (take l.i l.waiters);
  same : l.store ≡ record l.fn.store { jobs = record l.fn.store.jobs { comparisons = l.store.jobs.comparisons } };
  asks : Asks (sum_by (waited_at l.seats) (take l.i l.waiters)) l.fn.store.jobs l.store.jobs;
}
