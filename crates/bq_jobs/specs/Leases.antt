-- The order of leases.
use Rattle.std.specs.Prelude.{ℕ, Bool}
use Rattle.bq_job.specs.declared.job.Job.{Job}
use Rattle.bq_job.specs.declared.job.JobState.{JobState}
use Rattle.bq_job.specs.declared.job.JobState.TheVariants as states
use Rattle.bq_job.specs.machine.Changes.{is_pair_before}

-- the moment at which the lease of a reserved job ends
abbrev pub deadline_of : JobState → ℕ
deadline_of (states.Reserved seat deadline) = deadline
deadline_of _ = 0

-- the order of reserved jobs: by deadline, then by id
abbrev pub is_lease_before : Job → Job → Bool
is_lease_before a b = is_pair_before (deadline_of a.state) a.id (deadline_of b.state) b.id
