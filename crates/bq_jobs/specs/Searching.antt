-- Searches among the jobs.
use Rattle.std.specs.Prelude.{◌≡◌, ℕ, ◌+◌, ◌*◌, ◌≤◌, Option, is_some, length}
use Rattle.bq_job.specs.machine.Changes.{job_with}
use Rattle.bq_jobs.specs.JobsSeen.{JobsSeen, search_bound}

-- The number of jobs is unchanged. The comparison count does not decrease, and grows by at most `n`
-- searches among them.
pub record Asks (n : ℕ) (old new : JobsSeen) : Type 0 where
  pub many : length new.jobs ≡ length old.jobs
  pub stays : old.comparisons ≤ new.comparisons
  pub rise : new.comparisons ≤ old.comparisons + n * search_bound old.jobs

-- Jobs were searched, with at most `n` searches, and nothing was changed.
pub record Searches (n : ℕ) (old new : JobsSeen) : Type 0 where
  pub same : new ≡ record old { comparisons = new.comparisons }
  pub asks : Asks n old new

-- One search for the job with this id found something exactly if there is such a job.
abbrev pub FindsById : {A : Type 0} → ℕ → Option A → JobsSeen → JobsSeen → Type 0
FindsById id found old new = (is_some found ≡ is_some (job_with id old.jobs)) × Searches 1 old new
