-- The answers of a step.
use Rattle.std.specs.Prelude.{ℕ, Bool, List}
use Rattle.bq_job.specs.machine.Dispatch.{GivenAnswer}
use Rattle.bq_job.specs.machine.Steps.{Outcome}

-- the answers so far, in order; how many there may be; whether the step's command was skipped
-- because an allocation failed; and whether a body could not be shared
pub record Outbox : Type 0 where
  pub given : List GivenAnswer
  pub most : ℕ
  pub left_out : Bool
  pub unshared : Bool

-- the outcome of the step
abbrev pub outcome_of : Outbox → Outcome
outcome_of outs = record { left_out = outs.left_out; unshared = outs.unshared }
