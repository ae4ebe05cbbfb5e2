-- A change of a job that stays in the queue.
use Rattle.std.specs.Prelude.{◌≡◌, ℕ, ◌==◌, if◌then◌else◌, Bool, List, map, Option}
use Rattle.std.specs.Ordering.{nat_cmp}
use Rattle.std.specs.Map.{lookup, set_value}
use Rattle.std.specs.BTreeMap.{is_at}
use Rattle.bq_job.specs.declared.job.Job.{Job}
use Rattle.bq_index.specs.Edited.{edited_if}
use Rattle.bq_jobs.specs.declared.numbered_jobs.JobMove.{JobMove}
use Rattle.bq_jobs.specs.declared.numbered_jobs.NumberedMove.{NumberedMove}
use Rattle.bq_jobs.specs.declared.numbered_jobs.JobRemoval.{JobRemoval}
use Rattle.bq_jobs.specs.declared.numbered_jobs.PriAndState.{PriAndState}

abbrev pub pri_and_state : Job → PriAndState
pri_and_state j = record { pri = j.pri; state = j.state }

-- the jobs, with the one with this id changed by f
abbrev pub with_changed : ℕ → (Job → Job) → List Job → List Job
with_changed id f jobs = map (λ k. if k.id == id then f k else k) jobs

-- the report about a job that f changed
abbrev pub moved_by : (Job → Job) → Job → JobMove
moved_by f j = record { tube = j.tube; from = pri_and_state j; to = pri_and_state (f j) }

-- the same for a record
abbrev pub numbered_move : (Job → Job) → Job → NumberedMove
numbered_move f j = record { tube = j.tube; from = pri_and_state j; to = pri_and_state (f j) }

-- the tube, the priority and the state of a record that was removed
abbrev pub numbered_removal : Job → List ℕ × PriAndState
numbered_removal j = (j.tube, pri_and_state j)

-- the report about a job that was removed
abbrev pub removed_from : Job → JobRemoval
removed_from j = record { tube = j.tube; at = pri_and_state j }

abbrev pub KeepsId : (Job → Job) → Type 0
KeepsId f = (j : Job) → (f j).id ≡ j.id

abbrev pub KeepsTube : (Job → Job) → Type 0
KeepsTube f = (j : Job) → (f j).tube ≡ j.tube

-- The effect of f on a job does not depend on the job's tube, and does not change it.
abbrev pub IgnoresTube : (Job → Job) → Type 0
IgnoresTube f = (j : Job) (tube : List ℕ) → f (record j { tube = tube }) ≡ record (f j) { tube = tube }

-- The answer of a test about a job does not depend on the job's tube.
abbrev pub AsksNoTube : (Job → Bool) → Type 0
AsksNoTube p = (j : Job) (tube : List ℕ) → p (record j { tube = tube }) ≡ p j

-- the job with this id
abbrev pub entry_at : ℕ → List (ℕ × Job) → Option Job
entry_at id es = lookup (is_at (nat_cmp id)) es

-- the entries, with the one at this id changed by f if it was found
abbrev pub with_edited : ℕ → (Job → Job) → Option Job → List (ℕ × Job) → List (ℕ × Job)
with_edited id f found es = edited_if f (set_value (is_at (nat_cmp id)) es) es found
