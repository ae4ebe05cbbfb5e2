-- Dispatch, and then the ends of waits, with their answers appended.
use Rattle.std.specs.{List.list_all, Prelude.{IsTrue, List, length, ℕ, ◌*◌, ◌++◌, ◌+◌, ◌||◌, ◌≡◌}}
use Rattle.bq_core.specs.Turns.{HasRoom}
use Rattle.bq_core_api.specs.{Cost.IsStepWithin, Outbox.{Outbox, outcome_of}}
use Rattle.bq_job.specs.{beside.waiting_count, declared.step.Step.Step, machine.{GivenAnswer, Serves, has_refused_share, is_tube}}
use Rattle.bq_job.specs.machine.Machine.{Machine}
use Rattle.bq_jobs.specs.{JobsSeen.JobsSeen, Searching.Asks}
use Rattle.bq_state.specs.{CoreParts.machine_of, Cost.waited, declared.core_parts.CoreParts.CoreParts}

-- The model keeps no records of tubes that do not exist.
abbrev pub NoneIsGone : Machine → Type 0
NoneIsGone m = IsTrue (list_all (λ t. is_tube t.name m) m.tubes)

pub record ServesInto (first : Machine) (old new : Outbox) (last : Machine) : Type 0 where
  pub handed : List GivenAnswer
  pub ended : List GivenAnswer
  pub serves : Serves first handed ended last
  pub added : new.given ≡ old.given ++ handed ++ ended
  pub most : new.most ≡ old.most
  pub left_out : new.left_out ≡ old.left_out
  pub unshared : new.unshared ≡ (old.unshared || has_refused_share handed)
  pub tubes : NoneIsGone last
  pub room : (more : ℕ) → HasRoom more first old → HasRoom more last new

-- The same, and how many searches it took: for each job that was handed out, one for each tube that
-- waiting clients watch, and nine more; besides, one for each tube that they watch, and one for
-- each of them.
pub record ServesAsking (first : Machine) (old new : Outbox) (last : Machine) (before after : JobsSeen) : Type 0 where
  pub serves : ServesInto first old new last
  pub asks : Asks (length serves.handed * (waited first + 9) + waited first + waiting_count first + 1) before after

-- a step with these answers led from the first state to the last, within its bound of comparisons
abbrev pub TakesStepWithin : ℕ → ℕ → Step → CoreParts → CoreParts → Outbox → Type 0
TakesStepWithin at seat what old new outs =
    IsStepWithin (machine_of old) at seat what (outcome_of outs) outs.given (machine_of new)
    old.store.jobs.comparisons new.store.jobs.comparisons
