-- How many comparisons of keys a step may take.
use Rattle.std.specs.Prelude.{ℕ, Bool, true, false, ◌≤◌, ◌+◌, ◌*◌, ◌&&◌, ◌||◌, ◌==◌, not, if◌then◌else◌}
use Rattle.std.specs.Prelude.{List, Option, Some, None, is_some, count_by, length, max}
use Rattle.std.specs.List.{sum_by}
use Rattle.bq_index.specs.Digits.{binary_digits}
use Rattle.bq_job.specs.declared.job.Counts.{Counts}
use Rattle.bq_job.specs.declared.job.Job.{Job}
use Rattle.bq_job.specs.declared.job.JobState.{JobState}
use Rattle.bq_job.specs.declared.job.JobState.TheVariants as states
use Rattle.bq_job.specs.declared.step.Step.{Step}
use Rattle.bq_job.specs.machine.Changes.{is_waiting, job_with}
use Rattle.bq_job.specs.machine.Dispatch.{GivenAnswer}
use Rattle.bq_job.specs.machine.Machine.{Machine, SeatRecord}
use Rattle.bq_job.specs.machine.Steps.{IsStep, Outcome}
use Rattle.bq_job.specs.machine.Timers.{is_due, is_expired}
use Rattle.bq_job.specs.reading.TubeName.{is_same_name}

abbrev pub is_same_state : JobState → JobState → Bool
is_same_state states.Ready states.Ready = true
is_same_state (states.Delayed due) (states.Delayed other) = due == other
is_same_state (states.Reserved seat deadline) (states.Reserved holder other) = seat == holder && deadline == other
is_same_state (states.Buried number) (states.Buried other) = number == other
is_same_state _ _ = false

abbrev pub are_same_counts : Counts → Counts → Bool
are_same_counts c d =
    c.reserves == d.reserves && c.timeouts == d.timeouts && c.releases == d.releases && c.buries == d.buries && c.kicks == d.kicks

-- the jobs are equal; bodies and tubes are lists of bytes
abbrev pub is_same_job : Job → Job → Bool
is_same_job j k =
    is_same_state j.state k.state
    && (j.id == k.id && is_same_name j.tube k.tube && j.pri == k.pri && j.delay == k.delay && j.ttr == k.ttr
    && is_same_name j.body k.body && j.put_at == k.put_at && are_same_counts j.counts k.counts)

-- the job no longer exists, or has changed
abbrev pub is_gone_or_changed : Job → Option Job → Bool
is_gone_or_changed j None = true
is_gone_or_changed j (Some k) = not (is_same_job j k)

-- how many jobs were added, removed or changed between these lists
abbrev pub changed_jobs : List Job → List Job → ℕ
changed_jobs old new =
    count_by (λ j. is_gone_or_changed j (job_with j.id new)) old + count_by (λ j. not (is_some (job_with j.id old))) new

-- how many jobs become ready by a timer when a step begins at this moment
abbrev pub due_timers : ℕ → Machine → ℕ
due_timers at m = count_by (λ j. is_due (max m.moment at) j.state || is_expired (max m.moment at) j.state) m.jobs

-- how many tubes the client watches, if it waits or is at this seat
abbrev pub tubes_watched : ℕ → SeatRecord → ℕ
tubes_watched seat s = if is_waiting s || s.number == seat then length s.watched else 0

-- how many tubes are watched by the waiting clients and the client at this seat
abbrev pub watched_tubes : ℕ → Machine → ℕ
watched_tubes seat m = sum_by (tubes_watched seat) m.seats

-- A step, and the comparison count before and after it. Its changes are: jobs whose timer fired;
-- jobs handed out, or not handed out because the body could not be shared; and
-- jobs that the command added, removed or changed. Only the command adds or removes jobs, so there
-- were never more jobs than before or after the step. The count does not decrease.
pub record IsStepWithin (first : Machine) (at seat : ℕ) (what : Step) (outcome : Outcome) (answers : List GivenAnswer)
    (last : Machine) (old new : ℕ) : Type 0 where
  pub step : IsStep first at seat what outcome answers last
  pub stays : old ≤ new
  pub comparisons :
      let changes = due_timers at first + length step.handed + length step.handed_then + changed_jobs step.before.jobs step.after.jobs in
      let jobs = max (length first.jobs) (length last.jobs) in
      new ≤ old + (changes + 8) * (watched_tubes seat first + 16) * (2 * binary_digits (2 * jobs + 2))

-- The comparison count before and after a query of the next due moment. It does not decrease, and
-- grows by at most two searches and one for each waiting client.
pub record IsLookWithin (m : Machine) (old new : ℕ) : Type 0 where
  pub stays : old ≤ new
  pub comparisons : new ≤ old + (count_by is_waiting m.seats + 2) * (2 * binary_digits (2 * length m.jobs + 2))
