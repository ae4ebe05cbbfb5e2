-- The effect of each operation on a core with its clock.
use Rattle.std.specs.Prelude.{ℕ, ◌≡◌, ◌⊎◌, ◌<◌, ◌+◌, ◌&&◌, ◌∷◌, [], Bool, not, nat_lt, Option, Some, None, true, false}
use Rattle.bq_job.specs.beside.NextDue.{next_due}
use Rattle.bq_job.specs.declared.settings.Settings.{Settings}
use Rattle.bq_job.specs.declared.step.Step.{Step}
use Rattle.bq_job.specs.machine.Machine.{Machine, new_machine}
use Rattle.bq_job.specs.machine.Steps.{Outcome}
use Rattle.bq_job.specs.promise.History.{moment_heard}
use Rattle.bq_line.specs.GivenReadings.{GaveReadings}
use Rattle.bq_core_api.specs.Cost.{IsLookWithin, IsStepWithin}
use Rattle.bq_host.specs.Clocks.{Gives}
use Rattle.bq_host.specs.Compared.{LooksOnce}
use Rattle.bq_host.specs.Meanings.{Clock, Core}
use Rattle.bq_host.specs.declared.timed_core.HeardClock.{HeardClock}
use Rattle.bq_host.specs.declared.timed_core.TimedCore.{TimedCore}

-- The clock was read once, and its latest moment follows the reading.
pub record HasHeard {C : Type 0} (given : Gives C) (old : HeardClock C) (reading : Option ℕ) (new : HeardClock C) : Type 0 where
  pub gave : GaveReadings given old.clock (reading ∷ []) new.clock
  pub heard : new.moment ≡ moment_heard old.moment reading

-- Whether the clock is read before it is judged whether something is due by now. It is not read if nothing will ever be due, nor
-- if its last reading is fresh and nothing was due by that moment.
abbrev pub is_read_for : Bool → ℕ → Option ℕ → Bool
is_read_for fresh moment None = false
is_read_for fresh moment (Some due) = not (fresh && nat_lt moment due)

-- The clock was read once, or not at all.
abbrev pub HearsIf : {C : Type 0} → Gives C → Bool → HeardClock C → HeardClock C → Type 0
HearsIf given true old new = (reading : Option ℕ) × HasHeard given old reading new
HearsIf given false old new = new ≡ old

-- A new core with its clock: it has this model, nothing was compared, and no reading was taken.
pub record IsNewTimed {C K : Type 0} (k : Core K) (settings : Settings) (clock : C) (t : TimedCore C K) : Type 0 where
  pub core : k.machine t.core ≡ new_machine settings
  pub none_compared : k.comparisons t.core ≡ 0
  pub none_given : t.outs.given ≡ []
  pub room : t.outs.most ≡ settings.seats + 1
  pub clock_is : t.time.clock ≡ clock
  pub none_heard : t.time.moment ≡ 0
  pub unknown : t.is_due_known ≡ false

-- There is room for the answers of a step, and if the next due moment is marked as known, it is
-- right.
pub record IsReady {C K : Type 0} (machine : K → Machine) (t : TimedCore C K) : Type 0 where
  pub room : (machine t.core).settings.seats < t.outs.most
  pub due : t.is_due_known ≡ true → t.due ≡ next_due (machine t.core)

-- The core took a step at the moment of one reading of its clock.
pub record TakesStep {C K : Type 0} (k : Core K) (c : Clock C) (old : TimedCore C K) (seat : ℕ) (what : Step) (new : TimedCore C K)
    : Type 0 where
  pub reading : Option ℕ
  pub outcome : Outcome
  pub time : HasHeard c.given old.time reading new.time
  pub step : IsStepWithin (k.machine old.core) new.time.moment seat what outcome new.outs.given (k.machine new.core)
      (k.comparisons old.core) (k.comparisons new.core)
  pub unknown : new.is_due_known ≡ false
  pub most : new.outs.most ≡ old.outs.most
  pub settings : (k.machine new.core).settings ≡ (k.machine old.core).settings

-- The next due moment is known; the core was asked for it if it was not known before.
pub record KnowsDue {C K : Type 0} (k : Core K) (old new : TimedCore C K) : Type 0 where
  pub known : new.is_due_known ≡ true
  pub due : new.due ≡ next_due (k.machine old.core)
  pub same : k.machine new.core ≡ k.machine old.core
  pub once : (count : ℕ) → LooksOnce old.is_due_known (k.machine old.core) count (k.comparisons old.core)
      → IsLookWithin (k.machine old.core) count (k.comparisons new.core)
  pub outs : new.outs ≡ old.outs
  pub time : new.time ≡ old.time

-- The clock was read once, and nothing else happened.
abbrev pub OnlyHears : {C K : Type 0} → Gives C → TimedCore C K → TimedCore C K → Type 0
OnlyHears given old new = (reading : Option ℕ) × HasHeard given old.time reading new.time × (new ≡ record old { time = new.time })

-- No step was taken. If anything will ever be due, the clock was read once.
abbrev pub PassesOver : {C K : Type 0} → Core K → Clock C → TimedCore C K → TimedCore C K → Type 0
PassesOver {C} {K} k c old new = (looked : TimedCore C K) × KnowsDue k old looked × ((new ≡ looked) ⊎ OnlyHears c.given looked new)

-- The clock was read once, since something will be due.
abbrev pub HearsDue : {C K : Type 0} → Core K → Clock C → TimedCore C K → TimedCore C K → Type 0
HearsDue {C} {K} k c old new = (looked : TimedCore C K) × KnowsDue k old looked × OnlyHears c.given looked new

-- The core was asked for the next due moment and then took this step at the moment of one reading.
abbrev pub LooksAndSteps : {C K : Type 0} → Core K → Clock C → TimedCore C K → ℕ → Step → TimedCore C K → Type 0
LooksAndSteps {C} {K} k c old seat what new = (looked : TimedCore C K) × KnowsDue k old looked × TakesStep k c looked seat what new
