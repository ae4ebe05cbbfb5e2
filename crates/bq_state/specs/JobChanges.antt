-- Changes of a job.
use Rattle.std.specs.Prelude.{◌||◌, if◌then◌else◌, Bool, None, Option, Some, ℕ, false, not}
use Rattle.bq_job.specs.{declared.job.Job.Job, machine.{buried, in_state, is_buried, is_delayed, is_held_by, is_reserved}}
use Rattle.bq_job.specs.declared.job.JobState.TheVariants as states
use Rattle.bq_job.specs.machine.{job_after_timers, kicked, released, reserved_by, after_delete, Machine.Machine}
use Rattle.bq_state.specs.declared.job_store.JobChange.{JobChange, TheVariants.{Bury, FireTimers, GiveBack, HandOut, Kick, Release, Touch}}
use Rattle.bq_state.specs.declared.job_store.JobTest.{JobTest, TheVariants.{Free, FreeFor, HeldBy, Kickable}}

abbrev pub changed : JobChange → Job → Job
changed (FireTimers moment) j = job_after_timers moment j
changed (HandOut seat moment) j = reserved_by moment seat j
changed (GiveBack state) j = in_state state j
changed (Release pri delay moment) j = released moment pri delay j
changed (Bury number pri) j = buried number pri j
changed (Touch seat deadline) j = in_state (states.Reserved seat deadline) j
changed Kick j = kicked j

abbrev pub passes : JobTest → Job → Bool
passes (HeldBy seat) j = is_held_by seat j
passes (FreeFor seat) j = not (is_reserved j.state) || is_held_by seat j
passes Free j = not (is_reserved j.state)
passes Kickable j = is_buried j.state || is_delayed j.state

-- there is a job, and it passes the test
abbrev pub is_passed_by : (Job → Bool) → Option Job → Bool
is_passed_by passes None = false
is_passed_by passes (Some j) = passes j

-- how long the client at the seat may hold the job, if it holds it
abbrev pub ttr_held_by : ℕ → Option Job → Option ℕ
ttr_held_by seat None = None
ttr_held_by seat (Some j) = if is_held_by seat j then Some j.ttr else None

-- the model after the job, if there is one, was deleted
abbrev pub once_deleted : Option Job → Machine → Machine
once_deleted None m = m
once_deleted (Some j) m = after_delete m j
