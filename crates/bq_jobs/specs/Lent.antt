-- What the jobs are after a borrow of them has ended.
use Rattle.std.specs.Prelude.{◌≡◌, ⊤}
use mathlib.Core.Option.{none}
use Rattle.std.specs.Borrow.{MutBor, Fml, follows_so}
use Rattle.bq_jobs.specs.JobsSeen.{JobsSeen, ComparesAtMost}
use Rattle.bq_jobs.specs.contracts.named_jobs.Jobs.{the_row as jobs_row}
use Rattle.bq_jobs.specs.contracts.numbered_jobs.NumberedJobs.{the_row}

-- n equals m, but for a count of comparisons that rose by at most those of one search
abbrev pub IsCounted : JobsSeen → JobsSeen → Type 0
IsCounted m n = (n.jobs ≡ m.jobs) × (n.room ≡ m.room) × (n.tubes ≡ m.tubes) × ComparesAtMost 1 m n

-- when the borrow ends, the jobs behind s have not changed, but for the count
abbrev pub LeavesNumbered : MutBor JobsSeen → Fml
LeavesNumbered s = follows_so the_row the_row s.ghost_name none (λ _ _. ⊤) (IsCounted s.now)

-- the same for jobs that store the names of their tubes
abbrev pub LeavesJobs : MutBor JobsSeen → Fml
LeavesJobs s = follows_so jobs_row jobs_row s.ghost_name none (λ _ _. ⊤) (IsCounted s.now)
