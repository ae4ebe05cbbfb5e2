-- The effect of each operation on a desk under a lock.
use Rattle.std.specs.Prelude.{ℕ, ◌≡◌, ◌+◌, ◌≤◌, max, MatchBool, nat_le, List, Option, Some, None}
use Rattle.bq_job.specs.declared.answer.Answer.{Answer}
use Rattle.bq_job.specs.declared.step.Step.{Step}
use Rattle.bq_job.specs.declared.step.Step.TheVariants.{Tick}
use Rattle.bq_host.specs.Timed.{HasHeard}
use Rattle.bq_job.specs.beside.NextDue.{next_due}
use Rattle.bq_lock.specs.LockedState.{oldest_for, without_oldest}
use Rattle.bq_lock.specs.LockedSteps.{TakesStep}
use Rattle.bq_lock.specs.declared.locked_desk.LockedDesk.{LockedDesk}
use Rattle.bq_lock.specs.declared.shared_desk.Look.{Look}
use Rattle.bq_lock.specs.declared.shared_desk.Look.TheVariants as looks

-- The clock was read once, and its latest moment follows the reading.
abbrev pub Hears : {C K : Type 0} → (C → List (Option ℕ) → C → Type 0) → LockedDesk C K → LockedDesk C K → Type 0
Hears given old new = (reading : Option ℕ) × HasHeard given old.time reading new.time

-- The step was taken at the moment of one reading.
abbrev pub HasTaken : {C K : Type 0} → (C → List (Option ℕ) → C → Type 0) → ℕ → Step → LockedDesk C K → LockedDesk C K → Type 0
HasTaken given seat what old new = Hears given old new × TakesStep old.locked new.time.moment seat what new.locked

-- If nothing will ever be due, nothing happens. Otherwise the clock is read once, and a tick is
-- taken exactly if the moment after the reading has reached the due moment.
abbrev pub HasPassed : {C K : Type 0} → (C → List (Option ℕ) → C → Type 0) → ℕ → Option ℕ → LockedDesk C K → LockedDesk C K → Type 0
HasPassed given seat None old new = new ≡ old
HasPassed given seat (Some due) old new =
    Hears given old new
    × MatchBool (nat_le due new.time.moment) (TakesStep old.locked new.time.moment seat Tick new.locked) (new.locked ≡ old.locked)

-- A seat's sleep never goes past the next moment at which something is due.
abbrev pub EndsInTime : Option ℕ → ℕ → ℕ → Type 0
EndsInTime None heard rest = Unit {0}
EndsInTime (Some due) heard rest = heard + rest ≤ max due heard

-- what was fetched, as the result of a look
abbrev pub Tells : Look → Option Answer → Type 0
Tells (looks.Mail answer) fetched = fetched ≡ Some answer
Tells (looks.Nothing rest) fetched = fetched ≡ None

-- the desk after the oldest answer for a seat was taken out
abbrev pub once_fetched : {C K : Type 0} → ℕ → LockedDesk C K → LockedDesk C K
once_fetched seat desk = record desk { locked = record desk.locked { outboxes = without_oldest seat desk.locked.outboxes } }

-- A tick was taken if one was due, and then the oldest answer was taken out of the seat's outbox.
abbrev pub HasLooked : {C K : Type 0} → (C → List (Option ℕ) → C → Type 0) → ℕ → LockedDesk C K → Look → LockedDesk C K → Type 0
HasLooked {C} {K} given seat old look new =
    (at_look : LockedDesk C K) × HasPassed given seat (next_due old.locked.machine) old at_look
    × Tells look (oldest_for seat at_look.locked.outboxes) × (new ≡ once_fetched seat at_look)

-- The step was taken, and then the oldest answer for its seat was taken out.
abbrev pub HasServed : {C K : Type 0} → (C → List (Option ℕ) → C → Type 0) → ℕ → Step → LockedDesk C K → Option Answer
    → LockedDesk C K → Type 0
HasServed {C} {K} given seat what old answer new =
    (at_step : LockedDesk C K) × HasTaken given seat what old at_step × (answer ≡ oldest_for seat at_step.locked.outboxes)
    × (new ≡ once_fetched seat at_step)
