-- Bounds on the number of comparisons.
use Rattle.std.proofs.Common.{◌≡◌, ℕ, ◌+◌, ◌*◌, ◌≤◌, List, min, length, arith}
use Rattle.bq_index.specs.Digits.{binary_digits}
use Rattle.bq_index.proofs.Bound.{digits_rise}
use Rattle.bq_job.specs.declared.job.Job.{Job}
use Rattle.bq_job.specs.machine.Limits.{greatest}
use Rattle.bq_jobs.specs.JobsSeen.{JobsSeen, search_bound}
use Rattle.bq_jobs.specs.Searching.{Searches}

-- the comparisons of a search among at most as many entries as there are jobs
pub search_is_bounded : (jobs : List Job) (n : ℕ) → n ≤ length jobs → 2 * binary_digits (n + 1) ≤ search_bound jobs
unfolding binary_digits
search_is_bounded jobs n l = grind (arith, digits_rise)

-- a call that compares keys at most as often as n searches
pub few_more : (n : ℕ) (seen old : JobsSeen) (sum new : ℕ) → seen ≡ old → seen.comparisons ≡ min sum greatest → sum ≤ new
    → new ≤ sum + n * search_bound seen.jobs
    → (old.comparisons ≤ min new greatest) × (min new greatest ≤ old.comparisons + n * search_bound old.jobs)
few_more n seen old sum new e is l u = grind arith

-- the same for a call that changes nothing
pub searched : (n : ℕ) (seen old : JobsSeen) (sum new : ℕ) → seen ≡ old → seen.comparisons ≡ min sum greatest → sum ≤ new
    → new ≤ sum + n * search_bound seen.jobs → Searches n old (record seen { comparisons = min new greatest })
searched n seen old sum new e is l u = grind arith
