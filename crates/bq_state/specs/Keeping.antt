-- What calls leave unchanged.
use Rattle.std.specs.Prelude.{ℕ, ◌≡◌}
use Rattle.bq_jobs.specs.Searching.{Asks}
use Rattle.bq_state.specs.{CoreParts.OnlyCompares, Store.StoreSeen, declared.core_parts.CoreParts.CoreParts}

-- Jobs of a store were searched, with at most `n` searches, and nothing was changed.
pub record SearchesStore (n : ℕ) (old new : StoreSeen) : Type 0 where
  pub same : new ≡ record old { jobs = record old.jobs { comparisons = new.jobs.comparisons } }
  pub asks : Asks n old.jobs new.jobs

-- The same of a state.
pub record OnlySearches (n : ℕ) (old new : CoreParts) : Type 0 where
  pub same : OnlyCompares old new
  pub asks : Asks n old.store.jobs new.store.jobs
