-- What a contract sees of the jobs.
use Rattle.std.specs.Prelude.{ℕ, Bool, ◌+◌, ◌*◌, ◌≤◌, ◌==◌, not, nat_lt, List, filter, length}
use Rattle.bq_index.specs.Digits.{binary_digits}
use Rattle.bq_job.specs.declared.job.Job.{Job}
use Rattle.bq_job.specs.machine.JobCommands.{put_in_order}

-- the jobs in the order of their ids, how many more can be added without an allocation, the
-- comparisons of keys so far, and the registered tubes, each with its number
pub record JobsSeen : Type 0 where
  pub jobs : List Job
  pub room : ℕ
  pub comparisons : ℕ
  pub tubes : List (List ℕ × ℕ)

-- the order of the list of jobs
abbrev pub is_id_before : Job → Job → Bool
is_id_before a b = nat_lt a.id b.id

-- the jobs with this one added at its place in the order of ids
abbrev pub with_added : Job → List Job → List Job
with_added j jobs = put_in_order is_id_before j jobs

-- the jobs without the one with this id
abbrev pub without : ℕ → List Job → List Job
without id jobs = filter (λ k. not (k.id == id)) jobs

-- The most comparisons that one search may take: twice the number of binary digits of a little more
-- than twice the number of jobs.
abbrev pub search_bound : List Job → ℕ
search_bound jobs = 2 * binary_digits (2 * length jobs + 2)

-- a call compares keys at most as often as n searches may
abbrev pub ComparesAtMost : ℕ → JobsSeen → JobsSeen → Type 0
ComparesAtMost n old new = (old.comparisons ≤ new.comparisons) × (new.comparisons ≤ old.comparisons + n * search_bound old.jobs)

-- a number that orders jobs, and the id of the job
abbrev pub ranked : (Job → ℕ) → Job → ℕ × ℕ
ranked number j = (number j, j.id)
