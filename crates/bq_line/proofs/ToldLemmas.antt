-- What a control line has told so far.
use Rattle.std.proofs.lemmas.Grind.{common_steps}
use Rattle.std.proofs.Common.{◌≡◌, ℕ, ◌+◌, Bool, true, false, List, [], ◌++◌}
use Rattle.std.proofs.Common.{Option, IfSome, arith, append-nil}
use Rattle.std.specs.Io.KnownBytes.{Consumes, IsAtEnd}
use Rattle.std.specs.Option.{option_to_list}
use Rattle.bq_job.specs.declared.step.Step.{Step}
use Rattle.bq_job.specs.promise.ControlDid.{IsControlDone, are_same, drain_word, drains_from, one_if}
use Rattle.bq_line.specs.ControlRead.{IsOver, IsReadToEnd}
use Rattle.bq_line.specs.ControlSeen.{after_heard}
use Rattle.bq_line.specs.declared.control_line.Heard.TheVariants as hears
use Rattle.bq_line.proofs.ControlLemmas.{ends_read, fails_read}
use Rattle.bq_line.specs.declared.control_line.ControlInput.{Ghosts as Control}
use Rattle.bq_line.specs.ControlTold.{HasSubmitted, HasTold, TellsOn, owed_by}
use Rattle.bq_line.specs.declared.control_steps.ControlSteps.{ControlSteps}
use Rattle.bq_line.specs.declared.control_steps.Stage.{Stage}
use Rattle.bq_line.specs.declared.control_steps.Stage.TheVariants as stages

abbrev pub turns_of : {I : Type 0} → I → List ℕ → Bool → Stage → ControlSteps I
turns_of input line owes stage = record { input = input; line = line; owes_drain = owes; stage = stage }

module _ {I : Type 0} {i : Control I} where
  -- Nothing more was submitted.
  pub tells_none : {c : ControlSteps I} → TellsOn i c [] c
  tells_none {c} = grind (arith, append-nil)

  -- One thing after another.
  pub tells_then : {a b c : ControlSteps I} {more later : List Step} → TellsOn i a more b → TellsOn i b later c
      → TellsOn i a (more ++ later) c
  tells_then {a} {b} {c} {more} {later} h k = grind (arith, common_steps)

module _ {I : Type 0} (i : Control I) where
  -- A drain that was owed was submitted.
  pub tells_drain_if : (input : I) (line : List ℕ) (owes : Bool) (stage : Stage) → owes ≡ true
      → TellsOn i (turns_of input line owes stage) (option_to_list (owed_by owes stage)) (turns_of input line false stage)
  tells_drain_if input line owes stage is = rw is
      (record { on = λ first may before h. record { same = h.same; count = h.count + 1; at_stage = grind (arith, common_steps) } })

  -- The input has ended or failed: this is what its text asks for.
  tells_over : (old new : I) (kept : List ℕ) (owes failed : Bool) → IsOver (i.seen new) → (i.seen new).text ≡ (i.seen old).text
      → ((i.seen old).failed ≡ false → (i.seen new).failed ≡ failed) → i.may_fail new ≡ i.may_fail old
      → ((first : Option (List ℕ)) → Consumes first (i.remaining old) (i.seen old).text
      → IsReadToEnd first (i.remaining new) (i.seen old).text failed) → (failed ≡ true → i.may_fail old ≡ true)
      → drains_from kept [] failed ≡ one_if owes
      → TellsOn i (turns_of old kept false stages.Reads) [] (turns_of new kept owes stages.Ended)
  tells_over old new kept owes failed over text_is failed_is may_is read fault owed =
      record { on = λ first may before h. let r = h.at_stage.1 in grind (arith, append-nil, r.counted [] failed) }

  -- The end of the input was reached, which also ends the last line.
  pub tells_end_if : (old new : I) (kept : List ℕ) (owes : Bool) (stage : Stage) (word : Bool) → owes ≡ false → stage ≡ stages.Reads
      → word ≡ are_same kept drain_word → i.seen new ≡ after_heard hears.End (i.seen old) → i.may_fail new ≡ i.may_fail old
      → Consumes (i.remaining old) (i.remaining new) [] → IfSome (i.remaining old) (λ bytes. IsAtEnd (i.remaining new))
      → TellsOn i (turns_of old kept owes stage) [] (turns_of new kept word stages.Ended)
  tells_end_if old new kept owes stage word none reads word_is is may_is read ended =
      let told = tells_over old new kept (are_same kept drain_word) false in
      grind (arith, ends_read)

  pub tells_fault_if : (old new : I) (kept : List ℕ) (owes : Bool) (stage : Stage) → owes ≡ false → stage ≡ stages.Reads
      → i.seen new ≡ after_heard hears.Fault (i.seen old) → i.may_fail new ≡ i.may_fail old
      → Consumes (i.remaining old) (i.remaining new) [] → i.may_fail old ≡ true
      → TellsOn i (turns_of old kept owes stage) [] (turns_of new kept owes stages.Ended)
  tells_fault_if old new kept owes stage none reads is may_is read may_be =
      let told = tells_over old new kept false true in
      grind (arith, fails_read)

-- A control line that was read to its end and whose steps were all submitted.
pub record IsToldSo {I : Type 0} (i : Control I) (first : Option (List ℕ)) (may : Bool) (c : ControlSteps I) (told : List Step)
    : Type 0 where
  pub over : IsOver (i.seen c.input)
  pub read : IsReadToEnd first (i.remaining c.input) (i.seen c.input).text (i.seen c.input).failed
  pub fault : (i.seen c.input).failed ≡ true → may ≡ true
  pub done : IsControlDone (i.seen c.input).text (i.seen c.input).failed told

pub told_all : {I : Type 0} {i : Control I} {first : Option (List ℕ)} {may : Bool} {c : ControlSteps I} {told : List Step}
    → c.stage ≡ stages.Over → HasTold i first may c told → IsToldSo i first may c told
told_all {I} {i} {first} {may} {c} {told} over h = grind arith

module _ {I K : Type 0} {i : Control I} {trace : K → List Step → K → Type 0} where
  -- There was no room for the step.
  pub none_submitted : {old new : K} {steps : ControlSteps I}
      → ((link : K) (before : List Step) → trace link before old → trace link before new) → HasSubmitted i trace old steps new steps
  none_submitted {new = new} w = grind (arith, common_steps)

-- From a link on, the steps of a control line were submitted that was new then.
pub record Submitted {I K : Type 0} (i : Control I) (first : Option (List ℕ)) (may : Bool) (trace : K → List Step → K → Type 0)
    (old new : K) (steps : ControlSteps I) : Type 0 where
  pub told : List Step
  pub tells : HasTold i first may steps told
  pub over_link : (link : K) (before : List Step) → trace link before old → trace link (before ++ told) new

module _ {I K : Type 0} {i : Control I} {first : Option (List ℕ)} {may : Bool} {trace : K → List Step → K → Type 0} where
  pub submitted_on : {old mid new : K} {steps later : ControlSteps I} → Submitted i first may trace old mid steps
      → HasSubmitted i trace mid steps new later → Submitted i first may trace old new later
  submitted_on s m = grind (arith, common_steps, m.tells.on first may s.told s.tells)
