-- The first part of a step: due timers fire, over the whole state at once.
use Rattle.std.specs.Prelude.{ℕ, Bool, false, nat_le, if◌then◌else◌, Option, Some, None, map, count_by, max}
use Rattle.bq_job.specs.machine.{Changes.in_state, Limits.{grown, raised}, Machine.{Machine, Pause, TubeRecord}}
use Rattle.bq_job.specs.Types.{Counts, Job, JobState}
use Rattle.bq_job.specs.declared.job.JobState.TheVariants as states

-- A moment below that of an earlier step counts as the earlier one.
abbrev pub at_moment : ℕ → Machine → Machine
at_moment at m = record m { moment = max m.moment at }

-- the delay of a job in this state has ended
abbrev pub is_due : ℕ → JobState → Bool
is_due moment (states.Delayed due) = nat_le due moment
is_due moment _ = false

-- the time to run of a job in this state has expired
abbrev pub is_expired : ℕ → JobState → Bool
is_expired moment (states.Reserved seat deadline) = nat_le deadline moment
is_expired moment _ = false

abbrev pub with_timeout : Counts → Counts
with_timeout counts = record counts { timeouts = raised counts.timeouts }

-- A delayed job that is due becomes ready, and so does a reserved job whose time to run has
-- expired.
abbrev pub job_after_timers : ℕ → Job → Job
job_after_timers moment j =
    if is_due moment j.state then in_state states.Ready j
    else (if is_expired moment j.state then record j { state = states.Ready; counts = with_timeout j.counts } else j)

-- A pause ends at its end moment.
abbrev pub pause_after_timers : ℕ → Option Pause → Option Pause
pause_after_timers moment None = None
pause_after_timers moment (Some pause) = if nat_le pause.until moment then None else Some pause

abbrev pub tube_after_timers : ℕ → TubeRecord → TubeRecord
tube_after_timers moment t = record t { pause = pause_after_timers moment t.pause }

abbrev pub after_timers : Machine → Machine
after_timers m = record m {
  jobs = map (job_after_timers m.moment) m.jobs;
  tubes = map (tube_after_timers m.moment) m.tubes;
  timeouts = grown (count_by (λ j. is_expired m.moment j.state) m.jobs) m.timeouts;
}
