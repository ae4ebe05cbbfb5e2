-- Calls after which there is room for one more job.
use Rattle.std.specs.Prelude.{◌≡◌, ℕ, ◌+◌, if◌then◌else◌, is_some, max, Option, None, Result, OnOk, OnErr}
use Rattle.bq_job.specs.machine.Changes.{job_with}
use Rattle.bq_jobs.specs.JobsSeen.{ComparesAtMost, JobsSeen, without}

-- Room for a job was made, if there was none. If that failed, there was none, and nothing was changed.
abbrev pub MakesRoom : {T E : Type 0} → Result T E → JobsSeen → JobsSeen → Type 0
MakesRoom result old new =
    OnOk result (new ≡ record old { room = max old.room 1 }) × OnErr result (old.room ≡ 0) × OnErr result (new ≡ old)

-- The job with this id is gone. If `removed` says that there was one, its room is free again. Keys
-- were compared at most as often as in four searches.
abbrev pub Removes : {A : Type 0} → ℕ → Option A → JobsSeen → JobsSeen → Type 0
Removes id removed old new =
    (new.jobs ≡ without id old.jobs) × (new.room ≡ old.room + (if is_some removed then 1 else 0)) × (job_with id new.jobs ≡ None)
    × ComparesAtMost 4 old new

-- The same, if a test let the job go: if `removed` says that there is none, no job was removed.
abbrev pub RemovesIf : {A : Type 0} → ℕ → Option A → JobsSeen → JobsSeen → Type 0
RemovesIf id removed old new =
    (new.jobs ≡ (if is_some removed then without id old.jobs else old.jobs))
    × (new.room ≡ old.room + (if is_some removed then 1 else 0))
    × ComparesAtMost 4 old new
