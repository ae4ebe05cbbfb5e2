-- How many comparisons of keys calls make, stated as a number of searches among the jobs.
use Rattle.std.specs.Prelude.{length, max, ℕ, ◌*◌, ◌+◌, ◌-◌, ◌≤◌}
use Rattle.bq_core_api.specs.{Cost.changed_jobs, Outbox.Outbox}
use Rattle.bq_index.specs.Digits.{binary_digits}
use Rattle.bq_jobs.specs.{JobsSeen.JobsSeen, Searching.Asks}

-- twice the number of binary digits of a little more than twice the jobs: the most comparisons that
-- one search among them takes
abbrev pub search_among : ℕ → ℕ
search_among jobs = 2 * binary_digits (2 * jobs + 2)

-- The comparison count does not decrease, and grows by at most `n` searches among as many jobs as
-- there are before or after.
pub record AsksWithin (n : ℕ) (old new : JobsSeen) : Type 0 where
  pub stays : old.comparisons ≤ new.comparisons
  pub rise : new.comparisons ≤ old.comparisons + n * search_among (max (length old.jobs) (length new.jobs))

-- For each added answer `n` + 9 searches, and `n` more.
abbrev pub AsksByTurn : ℕ → Outbox → Outbox → JobsSeen → JobsSeen → Type 0
AsksByTurn n outs more old new = Asks ((length more.given - length outs.given) * (n + 9) + n) old new

-- At most ten searches, and nine more for each job that was added, removed or changed.
abbrev pub AsksAsChanged : JobsSeen → JobsSeen → Type 0
AsksAsChanged old new = AsksWithin (9 * changed_jobs old.jobs new.jobs + 10) old new
