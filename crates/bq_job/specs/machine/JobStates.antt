-- The states of a job, and the orders of delayed and buried jobs.
use Rattle.std.specs.Prelude.{ℕ, Bool, true, false}
use Rattle.bq_job.specs.{machine.Changes.is_pair_before, Types.{Job, JobState}}
use Rattle.bq_job.specs.declared.job.JobState.TheVariants as states

abbrev pub is_reserved : JobState → Bool
is_reserved (states.Reserved seat deadline) = true
is_reserved _ = false

abbrev pub is_delayed : JobState → Bool
is_delayed (states.Delayed due) = true
is_delayed _ = false

abbrev pub is_buried : JobState → Bool
is_buried (states.Buried number) = true
is_buried _ = false

-- the moment at which a delayed job is due
abbrev pub due_of : JobState → ℕ
due_of (states.Delayed due) = due
due_of _ = 0

abbrev pub burial_of : JobState → ℕ
burial_of (states.Buried number) = number
burial_of _ = 0

-- the order of delayed jobs: by due moment, then by id
abbrev pub is_due_before : Job → Job → Bool
is_due_before a b = is_pair_before (due_of a.state) a.id (due_of b.state) b.id

-- the order of buried jobs: by burial number, then by id
abbrev pub is_buried_before : Job → Job → Bool
is_buried_before a b = is_pair_before (burial_of a.state) a.id (burial_of b.state) b.id
