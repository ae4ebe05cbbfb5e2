-- The effect of a step on the content of the lock.
use Rattle.std.specs.Prelude.{ℕ, Bool, ◌≡◌, ◌<◌, ◌⊎◌, List, ◌++◌, map, length, IsTrue}
use Rattle.bq_job.specs.declared.answer.Answer.{Answer}
use Rattle.bq_job.specs.declared.journal.Entry.{Entry}
use Rattle.bq_job.specs.declared.step.Step.{Step}
use Rattle.bq_job.specs.machine.Dispatch.{GivenAnswer}
use Rattle.bq_job.specs.promise.Runs.{answers_to}
use Rattle.bq_job.specs.beside.StepBody.{has_body}
use Rattle.bq_job.specs.machine.Steps.{IsStep, Outcome}
use Rattle.bq_host.specs.Journals.{JournalState, with_entry, without_entry}
use Rattle.bq_host.specs.LastParts.{last_part}
use Rattle.bq_lock.specs.LockedState.{LockedState, outbox_at}

-- The answers went into the outboxes of their seats, each of which keeps the last four.
pub record AreDelivered (given : List GivenAnswer) (old new : List (List Answer)) : Type 0 where
  pub many : length new ≡ length old
  pub each : (seat : ℕ) → seat < length old → outbox_at seat new ≡ last_part 4 (outbox_at seat old ++ answers_to seat given)

-- The step's entry was added.
pub record IsAdded (old : JournalState) (entry : Entry) (unshared : Bool) (new : JournalState) : Type 0 where
  pub had_room : length old.entries < old.capacity
  pub new_is : new ≡ with_entry entry unshared old

-- The entry was left out, because there was no room or because the copy of its step was refused.
pub record IsLeftOut (refused : Type 0) (old new : JournalState) : Type 0 where
  pub was_refused : length old.entries < old.capacity → refused
  pub new_is : new ≡ without_entry old

-- The core took the step and the answers were delivered. The step's entry was added, with the
-- outcome of the step, or it was left out.
pub record TakesStepUnless (refused : Type 0) (old : LockedState) (at seat : ℕ) (what : Step) (new : LockedState) : Type 0 where
  pub outcome : Outcome
  pub given : List GivenAnswer
  pub step : IsStep old.machine at seat what outcome given new.machine
  pub delivered : AreDelivered given old.outboxes new.outboxes
  pub answered : new.answered ≡ map (λ g. g.0) given
  pub noted :
      IsAdded old.journal (record { moment = at; seat = seat; step = what; left_out = outcome.left_out }) outcome.unshared new.journal
      ⊎ IsLeftOut refused old.journal new.journal

-- the same if the copy shares the step's body, which can be refused only if there is one
abbrev pub TakesStep : LockedState → ℕ → ℕ → Step → LockedState → Type 0
TakesStep old at seat what new = TakesStepUnless (IsTrue (has_body what)) old at seat what new
