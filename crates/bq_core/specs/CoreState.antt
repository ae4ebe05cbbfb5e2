-- The value of a core in contracts.
use Rattle.std.specs.Prelude.{ℕ}
use Rattle.bq_job.specs.machine.Machine.{Machine}

-- the model that it represents, and how many keys of its jobs it has compared so far
pub record CoreState : Type 0 where
  pub machine : Machine
  pub comparisons : ℕ
