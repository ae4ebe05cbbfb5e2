-- Timers of jobs fire, one job after another.
use Rattle.std.specs.Prelude.{◌||◌, ◌≡◌, Bool, IsTrue, List, None, Option, Some, if◌then◌else◌, ℕ, count_by, map, nat_le}
use Rattle.bq_core.specs.declared.timers.Due.{Due, TheVariants.{DelayEnded, Expired}}
use Rattle.bq_job.specs.{declared.job.{Job.Job, JobState.JobState}, machine.{given_back, grown, is_due, is_expired, job_after_timers}}
use Rattle.bq_job.specs.machine.{job_with, raised, with_job, Machine.Machine}
use Rattle.bq_state.specs.{CoreParts.machine_of, declared.core_parts.CoreParts.CoreParts}

-- the model after all timers of jobs have fired
abbrev pub after_job_timers : Machine → Machine
after_job_timers m = record m {
  jobs = map (job_after_timers m.moment) m.jobs;
  timeouts = grown (count_by (λ j. is_expired m.moment j.state) m.jobs) m.timeouts;
}

-- all timers of jobs have fired
abbrev pub HaveFired : CoreParts → CoreParts → Type 0
HaveFired old new = machine_of new ≡ after_job_timers (machine_of old)

-- a timer of the job is due
abbrev pub has_due_timer : ℕ → Job → Bool
has_due_timer moment j = is_due moment j.state || is_expired moment j.state

-- the id that was found, if its moment has come
abbrev pub id_if_past : ℕ → Option (ℕ × ℕ) → Option ℕ
id_if_past moment None = None
id_if_past moment (Some found) = if nat_le found.0 moment then Some found.1 else None

-- There is a job with this id, and it passes.
pub record IsOne (passes : Job → Bool) (jobs : List Job) (id : ℕ) : Type 0 where
  pub job : Job
  pub found : job_with id jobs ≡ Some job
  pub passes_is : IsTrue (passes job)

-- this timer of a job is due
abbrev pub IsDue : Machine → Due → Type 0
IsDue m (DelayEnded id) = IsOne (λ j. is_due m.moment j.state) m.jobs id
IsDue m (Expired id) = IsOne (λ j. is_expired m.moment j.state) m.jobs id

-- the model after this timer has fired
abbrev pub fired : Due → Machine → Machine
fired (DelayEnded id) m = with_job id (job_after_timers m.moment) m
fired (Expired id) m = record (with_job id (job_after_timers m.moment) m) { timeouts = raised m.timeouts }

-- the model after all jobs that the client at the seat holds were brought into this state
abbrev pub after_giving_back : JobState → ℕ → Machine → Machine
after_giving_back state seat m = record m { jobs = map (given_back state seat) m.jobs }
