-- Kicking the jobs in a list of a tube, in order.
use Rattle.std.specs.{List.list_any, Prelude.{◌==◌, ◌≡◌, if◌then◌else◌, List, ℕ, filter, length, map, suc, take}}
use Rattle.bq_job.specs.{declared.job.Job.Job, machine.{in_order, kicked}}
use Rattle.bq_jobs.specs.{Ranks.{is_before_by, is_listed, list_rank}, declared.places.JobList.JobList}

-- the jobs in this list of this tube, in order
abbrev pub jobs_of : JobList → List ℕ → List Job → List Job
jobs_of list tube jobs = in_order (is_before_by (list_rank list)) (filter (is_listed list tube) jobs)

-- these jobs after the chosen ones were kicked
abbrev pub all_kicked : List Job → List Job → List Job
all_kicked chosen jobs = map (λ j. if list_any (λ k. k.id == j.id) chosen then kicked j else j) jobs

-- One job of `old` is kicked in `new`. Kicking the first n + 1 jobs of `old` is kicking the first n
-- of `new`.
pub record KicksFirst (list : JobList) (tube : List ℕ) (old new : List Job) : Type 0 where
  pub jobs : (n : ℕ) → all_kicked (take (suc n) (jobs_of list tube old)) old ≡ all_kicked (take n (jobs_of list tube new)) new
  pub count : (n : ℕ) → length (take (suc n) (jobs_of list tube old)) ≡ suc (length (take n (jobs_of list tube new)))
