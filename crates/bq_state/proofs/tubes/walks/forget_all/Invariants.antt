-- the entries of tubes that no longer exist are dropped up to the last one that was found, and
-- their numbers with them
use Rattle.std.proofs.Common.{filter, length, map, ◌≡◌}
use Rattle.bq_jobs.specs.Numbering.{named}
use Rattle.bq_state.{proofs.GoneLemmas.AllLeftBefore, specs.{Counting.AreTallied, Store.AreStored, TubesSeen.is_alive_at}}
use Rattle.bq_state.proofs.tubes.walks.forget_all.Given as goal

abbrev pub invariant-loop-name : goal.invariant-loop-name
invariant-loop-name l = record {
  left : filter is_alive_at l.catalog.entries ≡ filter is_alive_at l.fn.catalog.entries;
  before : AllLeftBefore l.last l.catalog.entries;
  stored : AreStored l.jobs l.catalog l.ends;
  tallies : AreTallied (map (named l.catalog.tubes) l.jobs.jobs) l.catalog.entries;
  jobs : map (named l.catalog.tubes) l.jobs.jobs ≡ map (named l.fn.catalog.tubes) l.jobs.jobs;
}

abbrev pub decreases-loop-name : goal.decreases-loop-name
decreases-loop-name l = length l.catalog.entries
