-- Properties of the model's definitions: what an addition does, and which job an id finds.
use Rattle.std.specs.Prelude.{◌≡◌, ℕ, ◌++◌, ◌∷◌, [], Bool, List, Some, None}
use Rattle.bq_job.specs.declared.job.Job.{Job}
use Rattle.bq_job.specs.machine.Changes.{first_of, job_with}
use Rattle.bq_job.specs.beside.Lawful.{AreIdsWithin}
use Rattle.bq_jobs.specs.JobsSeen.{with_added}

-- A job with an id above all others is added at the end.
abbrev pub AddsAtTheEnd : Type 0
AddsAtTheEnd = (low : ℕ) (jobs : List Job) (j : Job) → AreIdsWithin low jobs j.id → with_added j jobs ≡ jobs ++ j ∷ []

-- No job has the next id.
abbrev pub NextIsFree : Type 0
NextIsFree = (low next : ℕ) (jobs : List Job) → AreIdsWithin low jobs next → job_with next jobs ≡ None

-- The id of a chosen job finds that job.
abbrev pub ChosenHasItsId : Type 0
ChosenHasItsId = (low next : ℕ) (jobs : List Job) (passes : Job → Bool) (before : Job → Job → Bool) (j : Job)
    → AreIdsWithin low jobs next → first_of passes before jobs ≡ Some j → job_with j.id jobs ≡ Some j
