-- What a contract sees of the jobs and the tubes.
use Rattle.std.specs.Prelude.{List, [], ℕ}
use Rattle.bq_index.specs.Catalog.{CatalogSeen}
use Rattle.bq_jobs.specs.{JobsSeen.JobsSeen, Numbering.{AreRegistered, seen_named}, Table.Tabled}
use Rattle.bq_state.specs.{PauseEnds.AreEnds, TubesSeen.{EntrySeen, TubesSeen, first_tubes}, declared.tubes.pauses.PauseEnd.PauseEnd}

pub record StoreSeen : Type 0 where
  pub jobs : JobsSeen
  pub tubes : TubesSeen

-- from the records of the jobs, and the table of the tubes
abbrev pub store_seen : JobsSeen → Tabled EntrySeen → StoreSeen
store_seen rows table = record {
  jobs = seen_named rows table.tubes;
  tubes = record { entries = table.entries; numbers = table.tubes.numbers };
}

-- only the default tube, without jobs and clients
abbrev pub first_store : List (List ℕ × ℕ) → StoreSeen
first_store numbers = record {
  jobs = record { jobs = []; room = 0; comparisons = 0; tubes = numbers };
  tubes = first_tubes numbers;
}

-- The tubes of the jobs have numbers, and the ends of the tubes' pauses are kept.
pub record AreStored (rows : JobsSeen) (table : Tabled EntrySeen) (pauses : CatalogSeen PauseEnd (Unit {0})) : Type 0 where
  pub registered : AreRegistered table.tubes rows.jobs
  pub ends : AreEnds table pauses
