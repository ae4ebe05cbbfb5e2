-- A job and its tube.
use Rattle.std.specs.Prelude.{◌≡◌, ℕ, List, [], Option, Some}
use Rattle.bq_job.specs.declared.job.Job.{Job}

-- a job without its tube
abbrev pub but_for_tube : Job → Job
but_for_tube j = record j { tube = [] }

-- the job, in the tube with this name
abbrev pub in_tube : Job → List ℕ → Job
in_tube j tube = record j { tube = tube }

-- if there is a job, this is its body,
abbrev pub IsBodyOf : Option Job → List ℕ → Type 0
IsBodyOf o body = (j : Job) → o ≡ Some j → body ≡ j.body

-- or its tube.
abbrev pub IsTubeOf : Option Job → List ℕ → Type 0
IsTubeOf o tube = (j : Job) → o ≡ Some j → tube ≡ j.tube
