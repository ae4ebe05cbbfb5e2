-- The state of a job, from the fields that represent it.
use Rattle.std.specs.Prelude.{ℕ}
use Rattle.bq_job.specs.declared.job.JobState.{JobState}
use Rattle.bq_job.specs.declared.job.JobState.TheVariants as states
use Rattle.bq_jobs.specs.declared.numbered_jobs.Stage.{Stage}
use Rattle.bq_jobs.specs.declared.numbered_jobs.Stage.TheVariants as stages

-- from the kind of state, the seat of the holder, and the moment or the number that belongs to the
-- state
abbrev pub state_of : Stage → ℕ → ℕ → JobState
state_of stages.Ready seat at = states.Ready
state_of stages.Delayed seat at = states.Delayed at
state_of stages.Reserved seat at = states.Reserved seat at
state_of stages.Buried seat at = states.Buried at
