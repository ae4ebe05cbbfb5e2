-- The core at work in a thread of its own.
use Rattle.std.specs.Prelude.{ℕ, ◌≡◌, ◌⊎◌, ◌<◌, ◌++◌, ◌∷◌, Bool, true, false}
use Rattle.std.specs.Prelude.{List, [], Option, length, slice_index_or, slice_set}
use Rattle.bq_job.specs.beside.NextDue.{is_before, next_due}
use Rattle.bq_job.specs.declared.settings.Settings.{Settings}
use Rattle.bq_job.specs.declared.step.Step.{Step}
use Rattle.bq_job.specs.declared.step.Step.TheVariants.{Gone, Tick}
use Rattle.bq_job.specs.machine.Dispatch.{GivenAnswer}
use Rattle.bq_job.specs.machine.Machine.{Machine}
use Rattle.bq_job.specs.promise.Runs.{Entry, answers_to}
use Rattle.bq_job.specs.machine.Steps.{IsStep, Outcome}
use Rattle.bq_link.specs.EndStates.{CoreState, IntakeState, IsSameCore, sent_to}
use Rattle.bq_link.specs.Submissions.{AreBelow, Invariant, steps_of}
use Rattle.bq_host.specs.Meanings.{Clock, Core}
use Rattle.bq_host.specs.Timed.{IsReady}
use Rattle.bq_host.specs.TimedRuns.{HasRun, TimedState, new_timed, timed_state}
use Rattle.bq_thread_work.specs.CoreWork.{HasGone, no_ticks, steps_made}
use Rattle.bq_thread_work.specs.Flags.{AreAllSet}
use Rattle.bq_thread_work.specs.Sending.{AreStuck, IsAtRest}
use Rattle.bq_thread_work.specs.declared.core_work.gone_ends.GoneEnds.{GoneEnds}
use Rattle.bq_thread_work.specs.declared.core_work.core_driver.CoreDriver.{CoreDriver}

-- the state of the core's thread
pub record DriverState : Type 0 where
  pub timed : TimedState
  pub end : CoreState
  -- the answers that were not sent yet, and a flag for each end that has gone
  pub pending : List GivenAnswer
  pub gone : List Bool

abbrev pub driver_state : {C K : Type 0} → Core K → CoreDriver C K → DriverState
driver_state k h = record {
  timed = timed_state k h.timed;
  end = h.sender.end;
  pending = h.sender.kept.items ++ h.timed.outs.given;
  gone = h.gone.flags.items;
}

-- What the core did since the start: it took the steps that arrived at its end, and ticks, each at
-- the moment of a reading. Its answers were sent or will be sent. Its comparisons, counted from
-- `from` on, stayed within bounds.
pub record HasWorked (settings : Settings) (from : ℕ) (readings : List (Option ℕ)) (h : DriverState) : Type 0 where
  pub history : List Entry
  pub given : List GivenAnswer
  pub ran : HasRun (new_timed settings from) readings history given h.timed
  pub taken_is : steps_made history ≡ no_ticks h.end.taken
  pub numbers : AreBelow (length h.end.rings) h.end.taken
  pub sent_is : (seat : ℕ) → seat < length h.end.rings → answers_to seat given ≡ sent_to h.end seat ++ answers_to seat h.pending
  pub marked : (seat : ℕ) → slice_index_or h.gone seat false ≡ true → HasGone (steps_of seat h.end.taken)

-- the same with the clock, which gave these readings from the first on
abbrev pub IsAtWork : {C K : Type 0} → Core K → Clock C → Settings → ℕ → C → CoreDriver C K → Type 0
IsAtWork k c settings from first driver =
    (readings : List (Option ℕ)) × c.given first readings driver.timed.time.clock × HasWorked settings from readings (driver_state k driver)

-- It is known for each end whether it has gone.
pub record KnowsAll (gone : GoneEnds) : Type 0 where
  pub each : gone.all ≡ true → AreAllSet gone.flags.items
  pub known : AreAllSet gone.flags.items → gone.all ≡ true

-- There is room for the answers of a step, it is known which ends have gone, and if the next due
-- moment is marked as known, it is right.
pub record IsInOrder {C K : Type 0} (machine : K → Machine) (h : CoreDriver C K) : Type 0 where
  pub ready : IsReady machine h.timed
  pub sender : IsAtRest h.sender
  pub many : length h.gone.flags.items ≡ h.sender.ends
  pub all : KnowsAll h.gone

-- The driver is in order, and its end is one of this intake's.
abbrev pub IsInOrderAt : {C K : Type 0} → (K → Machine) → IntakeState → CoreDriver C K → Type 0
IsInOrderAt machine intake h = (h.sender.end.intake ≡ intake.id) × IsInOrder machine h

-- The driver is still in order, and has the same end and settings. The work went on from whatever
-- was done before.
pub record WorksOn {C K : Type 0} (k : Core K) (c : Clock C) (old new : CoreDriver C K) : Type 0 where
  pub order : IsInOrder k.machine new
  pub end : IsSameCore old.sender.end new.sender.end
  pub settings : (k.machine new.timed.core).settings ≡ (k.machine old.timed.core).settings
  pub work : (settings : Settings) (from : ℕ) (first : C) → IsAtWork k c settings from first old → IsAtWork k c settings from first new

-- the flags of the ends that have gone, after a step: an end's own step sets its flag
abbrev pub gone_after : ℕ → Step → List Bool → List Bool
gone_after seat Gone flags = slice_set flags seat true
gone_after seat _ flags = flags

-- One more step was taken out of the intake.
abbrev pub TookOne : CoreState → CoreState → Type 0
TookOne old new = (step : ℕ × Step) × (new.taken ≡ old.taken ++ step ∷ [])

-- The core took a tick at the latest moment of the clock.
pub record HasTicked {C K : Type 0} (machine : K → Machine) (old new : CoreDriver C K) : Type 0 where
  pub outcome : Outcome
  pub step : IsStep (machine old.timed.core) new.timed.time.moment 0 Tick outcome new.timed.outs.given (machine new.timed.core)

-- At the latest moment of the clock nothing is due.
abbrev pub IsIdle : {C K : Type 0} → (K → Machine) → CoreDriver C K → CoreDriver C K → Type 0
IsIdle machine old new = is_before new.timed.time.moment (next_due (machine old.timed.core)) ≡ true

-- A step or a tick was taken, or nothing is due.
abbrev pub WorkWent : {C K : Type 0} → (K → Machine) → CoreDriver C K → CoreDriver C K → Type 0
WorkWent machine old new = TookOne old.sender.end new.sender.end ⊎ (HasTicked machine old new ⊎ IsIdle machine old new)

-- The result of a turn that is not the last one: no more answers can be kept for full rings, or a
-- step or a tick was taken, or nothing is due.
abbrev pub TurnWent : {C K : Type 0} → (K → Machine) → CoreDriver C K → CoreDriver C K → Type 0
TurnWent machine old new = (length new.sender.kept.items ≡ new.sender.ends) ⊎ WorkWent machine old new

-- What the core found when it looked for work. Answers that were stuck at full rings still are. If the
-- result is false, the intake's invariant held of an empty intake after the last step that was taken,
-- and nothing is due. If it is true, the core took a step or a tick.
abbrev pub FindsWork : {C K : Type 0} → Invariant → (K → Machine) → CoreDriver C K → CoreDriver C K → Bool → Type 0
FindsWork was machine old new result =
    (AreStuck old.sender.end old.sender.kept.items → AreStuck new.sender.end new.sender.kept.items)
    × (result ≡ false → was old.sender.end.taken []) × (result ≡ false → IsIdle machine old new)
    × (result ≡ true → TookOne old.sender.end new.sender.end ⊎ HasTicked machine old new)

-- Nothing is left to do.
pub record IsOver {C K : Type 0} (h : CoreDriver C K) : Type 0 where
  pub none_pending : h.sender.kept.items ++ h.timed.outs.given ≡ []
  pub all_gone : AreAllSet h.gone.flags.items
