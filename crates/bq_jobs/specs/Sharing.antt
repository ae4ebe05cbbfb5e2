-- A change of a job that also returns another reference to its body, or is not made.
use Rattle.std.specs.Prelude.{◌≡◌, ℕ, ◌^◌, false, true, is_some, List, Option, Some, None, Result, Ok, Err, IfOk}
use Rattle.bq_job.specs.beside.Lawful.{AreIdsWithin}
use Rattle.bq_job.specs.declared.job.Job.{Job}
use Rattle.bq_job.specs.machine.Changes.{job_with}
use Rattle.bq_jobs.specs.Changed.{numbered_move, with_changed}
use Rattle.bq_jobs.specs.JobsSeen.{ComparesAtMost, JobsSeen}
use Rattle.bq_jobs.specs.Searching.{Searches}
use Rattle.bq_jobs.specs.Seen.{IsBodyOf}
use Rattle.bq_jobs.specs.declared.numbered_jobs.NumberedMove.{NumberedMove}

-- what a record may return: the report about its change, and its body
abbrev pub MayShare : {E : Type 0} → (Job → Job) → Job → Result (NumberedMove × List ℕ) E → Type 0
MayShare f j told = IfOk told (λ s. (s.0 ≡ numbered_move f j) × (s.1 ≡ j.body))

-- the job, changed by f if the reference was not refused
abbrev pub if_shared : {A E : Type 0} → (Job → Job) → Result A E → Job → Job
if_shared f (Ok s) j = f j
if_shared f (Err e) j = j

-- the job with this id was changed, and this is its body
pub record ChangesShared (id : ℕ) (f : Job → Job) (body : List ℕ) (old new : JobsSeen) : Type 0 where
  pub body_is : IsBodyOf (job_with id old.jobs) body
  pub jobs : new.jobs ≡ with_changed id f old.jobs
  pub ordered : AreIdsWithin 0 old.jobs (2 ^ 64)
  pub tubes : new.tubes ≡ old.tubes
  pub room : new.room ≡ old.room
  pub comparisons : ComparesAtMost 7 old new

-- The job with this id was changed, and `told` has the report about that and the body. If there is
-- no such job, or the reference was refused, nothing was changed.
abbrev pub SharesAndChanges : {M E : Type 0} → (M → Type 0) → ℕ → (Job → Job) → Option (Result (M × List ℕ) E) → JobsSeen
    → JobsSeen → Type 0
SharesAndChanges Reports id f None old new = (false ≡ is_some (job_with id old.jobs)) × Searches 1 old new
SharesAndChanges Reports id f (Some (Err e)) old new = (true ≡ is_some (job_with id old.jobs)) × Searches 1 old new
SharesAndChanges Reports id f (Some (Ok s)) old new = Reports s.0 × ChangesShared id f s.1 old new
