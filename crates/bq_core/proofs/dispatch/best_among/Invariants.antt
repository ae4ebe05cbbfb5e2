-- the best of the names so far
use Rattle.std.proofs.Common.{fold, take, ◌≡◌}
use Rattle.bq_jobs.specs.Searching.{Asks}
use Rattle.bq_state.specs.{Offers.with_offer, TubesSeen.records}
use Rattle.bq_core.proofs.dispatch.best_among.Given as goal

abbrev pub invariant-loop-i : goal.invariant-loop-i
invariant-loop-i l = record {
  best : l.best ≡ fold (with_offer l.fn.store.jobs.jobs (records l.fn.store.tubes)) l.fn.first (take l.i l.watched);
  same : l.store ≡ record l.fn.store { jobs = record l.fn.store.jobs { comparisons = l.store.jobs.comparisons } };
  asks : Asks l.i l.fn.store.jobs l.store.jobs;
}
