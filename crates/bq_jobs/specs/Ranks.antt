-- The number that orders the jobs of each kind, and the first of them.
use Rattle.std.specs.Prelude.{ℕ, Bool, ◌&&◌, List, Option}
use Rattle.std.specs.Option.{option_map}
use Rattle.bq_job.specs.declared.job.Job.{Job}
use Rattle.bq_job.specs.declared.job.JobState.{JobState}
use Rattle.bq_job.specs.machine.Changes.{first_of, is_holder, is_pair_before, is_ready_state}
use Rattle.bq_job.specs.machine.JobStates.{burial_of, due_of, is_buried, is_delayed, is_reserved}
use Rattle.bq_job.specs.reading.TubeName.{is_same_name}
use Rattle.bq_jobs.specs.declared.places.Holder.{Holder}
use Rattle.bq_jobs.specs.declared.places.Holder.TheVariants as holders
use Rattle.bq_jobs.specs.declared.places.JobList.{JobList}
use Rattle.bq_jobs.specs.declared.places.JobList.TheVariants as lists
use Rattle.bq_jobs.specs.declared.places.Timer.{Timer}
use Rattle.bq_jobs.specs.declared.places.Timer.TheVariants as timers
use Rattle.bq_jobs.specs.JobsSeen.{ranked}
use Rattle.bq_jobs.specs.Leases.{deadline_of}

-- the state of the jobs of a list, and the number that orders them
abbrev pub is_in_list : JobList → JobState → Bool
is_in_list lists.Ready s = is_ready_state s
is_in_list lists.Delayed s = is_delayed s
is_in_list lists.Buried s = is_buried s

abbrev pub list_rank_at : JobList → ℕ → JobState → ℕ
list_rank_at lists.Ready pri s = pri
list_rank_at lists.Delayed pri s = due_of s
list_rank_at lists.Buried pri s = burial_of s

abbrev pub is_listed : JobList → List ℕ → Job → Bool
is_listed list tube j = is_in_list list j.state && is_same_name tube j.tube

abbrev pub list_rank : JobList → Job → ℕ
list_rank list j = list_rank_at list j.pri j.state

-- the same for any holder,
abbrev pub is_of : Holder → Job → Bool
is_of (holders.Held seat) j = is_holder seat j.state
is_of (holders.Listed l) j = is_listed l.list l.tube j

abbrev pub rank_of : Holder → Job → ℕ
rank_of (holders.Held seat) j = deadline_of j.state
rank_of (holders.Listed l) j = list_rank l.list j

-- and for delays and leases
abbrev pub is_timed : Timer → Job → Bool
is_timed timers.Delay j = is_delayed j.state
is_timed timers.Lease j = is_reserved j.state

abbrev pub moment_of : Timer → Job → ℕ
moment_of timers.Delay j = due_of j.state
moment_of timers.Lease j = deadline_of j.state

-- the order of jobs by a number, then by id
abbrev pub is_before_by : (Job → ℕ) → Job → Job → Bool
is_before_by number a b = is_pair_before (number a) a.id (number b) b.id

-- the first of the jobs that pass, in that order
abbrev pub first_by : (Job → Bool) → (Job → ℕ) → List Job → Option Job
first_by passes number jobs = first_of passes (is_before_by number) jobs

-- the first job in a list of a tube
abbrev pub first_in : JobList → List ℕ → List Job → Option Job
first_in list tube jobs = first_by (is_listed list tube) (list_rank list) jobs

-- the number and the id of the first job of a holder
unfoldable pub first_held : Holder → List Job → Option (ℕ × ℕ)
first_held g jobs = option_map (ranked (rank_of g)) (first_by (is_of g) (rank_of g) jobs)

-- the same for the delays or the leases
unfoldable pub first_timed : Timer → List Job → Option (ℕ × ℕ)
first_timed t jobs = option_map (ranked (moment_of t)) (first_by (is_timed t) (moment_of t) jobs)

-- the id in the pair
unfoldable pub id_in : Option (ℕ × ℕ) → Option ℕ
id_in rank = option_map (λ p. p.1) rank
