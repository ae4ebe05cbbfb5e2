-- What was read from a control line so far, and the steps that it has submitted.
use Rattle.std.specs.Prelude.{ℕ, ◌≡◌, ◌+◌, Bool, true, false, List, [], ◌∷◌, ◌++◌, Option, Some, None, replicate}
use Rattle.std.specs.Io.KnownBytes.{Consumes}
use Rattle.bq_job.specs.declared.step.Step.{Step, TheVariants.{Drain, Gone}}
use Rattle.bq_job.specs.promise.ControlDid.{drains, drains_from, one_if}
use Rattle.bq_line.specs.ControlRead.{IsOver, IsReadToEnd}
use Rattle.bq_line.specs.ControlSeen.{ControlSeen}
use Rattle.bq_line.specs.declared.control_line.ControlInput.{Ghosts as Control}
use Rattle.bq_line.specs.declared.control_steps.ControlSteps.{ControlSteps}
use Rattle.bq_line.specs.declared.control_steps.Stage.{Stage}
use Rattle.bq_line.specs.declared.control_steps.Stage.TheVariants as stages

-- the step that has to be submitted next
abbrev pub owed_by : Bool → Stage → Option Step
owed_by true stage = Some Drain
owed_by false stages.Reads = None
owed_by false stages.Ended = Some Gone
owed_by false stages.Over = None

-- This text was read so far, and its complete lines ask for this many drains. `kept` is the text of
-- the incomplete line.
pub record IsReading (first left : Option (List ℕ)) (seen : ControlSeen) (kept : List ℕ) (count : ℕ) : Type 0 where
  pub read : Consumes first left seen.text
  pub well : seen.failed ≡ false
  pub counted : (rest : List ℕ) (failed : Bool) → drains (seen.text ++ rest) failed ≡ count + drains_from kept rest failed

-- Everything was read, and it asks for this many drains.
pub record IsRead (first left : Option (List ℕ)) (may_fail : Bool) (seen : ControlSeen) (count : ℕ) : Type 0 where
  pub over : IsOver seen
  pub read : IsReadToEnd first left seen.text seen.failed
  pub fault : seen.failed ≡ true → may_fail ≡ true
  pub counted : drains seen.text seen.failed ≡ count

-- by the stage: this many drains were submitted, and this many of those that were asked for were
-- not yet
abbrev pub IsAtStage : Stage → Option (List ℕ) → Option (List ℕ) → Bool → ControlSeen → List ℕ → ℕ → ℕ → List Step → Type 0
IsAtStage stages.Reads first left may_fail seen kept owed count told =
    (told ≡ replicate count Drain) × IsReading first left seen kept (count + owed)
IsAtStage stages.Ended first left may_fail seen kept owed count told =
    (told ≡ replicate count Drain) × IsRead first left may_fail seen (count + owed)
IsAtStage stages.Over first left may_fail seen kept owed count told =
    (owed ≡ 0) × (told ≡ replicate count Drain ++ Gone ∷ []) × IsRead first left may_fail seen count

-- A control line whose reader at first had these bytes left and may fail or not, and which has
-- submitted these steps.
pub record HasTold {I : Type 0} (i : Control I) (first : Option (List ℕ)) (may : Bool) (c : ControlSteps I) (told : List Step)
    : Type 0 where
  pub same : i.may_fail c.input ≡ may
  pub count : ℕ
  pub at_stage : IsAtStage c.stage first (i.remaining c.input) may (i.seen c.input) c.line (one_if c.owes_drain) count told

-- Whatever was submitted before, these steps were submitted after it.
pub record TellsOn {I : Type 0} (i : Control I) (old : ControlSteps I) (more : List Step) (new : ControlSteps I) : Type 0 where
  pub on : (first : Option (List ℕ)) (may : Bool) (before : List Step) → HasTold i first may old before
      → HasTold i first may new (before ++ more)

-- Whatever was submitted over a link before, these steps of the control line were submitted after it.
pub record HasSubmitted {I K : Type 0} (i : Control I) (trace : K → List Step → K → Type 0) (old : K) (steps : ControlSteps I)
    (new : K) (later : ControlSteps I) : Type 0 where
  pub told : List Step
  pub tells : TellsOn i steps told later
  pub over_link : (first : K) (before : List Step) → trace first before old → trace first (before ++ told) new
