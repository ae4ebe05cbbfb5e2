-- The result of carrying out an action that is known by an equation.
use Rattle.std.proofs.Common.{◌≡◌, ℕ, List, [], refl, sym, ap, ◌∙◌, inl, inr, arith}
use Rattle.std.proofs.lemmas.Grind.{common_steps}
use Rattle.bq_job.specs.declared.answer.Answer.{Answer}
use Rattle.bq_job.specs.declared.step.Step.{Step}
use Rattle.bq_job.specs.promise.LineSteps.{LineSeen}
use Rattle.bq_seat.specs.declared.machine.Action.{Action}
use Rattle.bq_seat.specs.declared.machine.Action.TheVariants as actions
use Rattle.bq_seat.specs.declared.machine.SeatMachine.{SeatMachine}
use Rattle.bq_seat.specs.declared.machine.Event.TheVariants as events
use Rattle.bq_seat.specs.SeatMoves.{IsMove}
use Rattle.bq_job.specs.texts.AnswerText.{answer_text}
use Rattle.bq_line.specs.Carried.{CanEnd, CarriedPart, HasGone, IsWrittenAs, with_part}
use Rattle.bq_line.specs.declared.attendant.Progress.{Progress}
use Rattle.bq_line.specs.declared.attendant.Progress.TheVariants as results
use Rattle.bq_line.specs.Writing.{BreaksOff, with_begun, with_written}
use Rattle.bq_line.specs.Links.{as_submitted}
use Rattle.bq_line.specs.Submitting.{HasSubmittedOn, TakesOrWaits}
use Rattle.bq_line.specs.Tending.{Uses}

-- An action was carried out, or a part of it, with what the link did.
abbrev pub ComesOn : {K : Type 0} → (K → List Step → List Answer → K → Type 0) → Progress → SeatMachine → LineSeen → ℕ → K → SeatMachine
    → LineSeen → ℕ → K → Action → Action → Type 0
ComesOn trace result old seen sent link new later now after next action =
    (submitted : List Step) × (taken : List Answer) × HasGone trace link action submitted taken after
    × CarriedPart result old seen action sent new later next now submitted taken

-- Nothing of an answer is written yet.
pub none_begun : (action : Action) (line : LineSeen) → line ≡ with_part action 0 line
none_begun action line = grind (arith, common_steps)

module _ {K : Type 0} (trace : K → List Step → List Answer → K → Type 0) (old : SeatMachine) (seen later : LineSeen) (sent : ℕ) (link : K)
    {action : Action} {answer : Answer} (is : action ≡ actions.Write answer) where
  -- Nothing is submitted or taken while an answer is written.
  wrote_as : (result : Progress) (new : SeatMachine) (next : Action) (now : ℕ) → CanEnd result (actions.Write answer)
      → ((first : LineSeen) → seen ≡ with_begun (answer_text answer) sent first
      → (last : LineSeen) × (later ≡ with_part next now last) × IsWrittenAs result old first answer new last next)
      → ComesOn trace result old seen sent link new later now link next action
  wrote_as result new next now can wrote =
      rw is ([], [], refl, (record { can_end = can; still = λ moved. (refl, refl) }, (refl, refl), grind arith))

  -- The rest of the answer was written: all of it, as far as there was room, or it was cut off.
  pub wrote_whole : {new : SeatMachine} {next : Action}
      → ((first : LineSeen) → seen ≡ with_begun (answer_text answer) sent first → later ≡ with_written (answer_text answer) first)
      → IsMove old events.WriteDone next new → ComesOn trace results.Moved old seen sent link new later 0 link next action
  wrote_whole {new = new} {next = next} w move = grind (arith, wrote_as, none_begun next later)

  pub broke_off : {new : SeatMachine} {next : Action}
      → ((first : LineSeen) → seen ≡ with_begun (answer_text answer) sent first → BreaksOff (answer_text answer) first later)
      → IsMove old events.WriteFault next new → ComesOn trace results.Moved old seen sent link new later 0 link next action
  broke_off {new = new} {next = next} w move = grind (arith, wrote_as, none_begun)

  pub not_yet : (now : ℕ)
      → ((first : LineSeen) → seen ≡ with_begun (answer_text answer) sent first → later ≡ with_begun (answer_text answer) now first)
      → ComesOn trace results.NoRoom old seen sent link old later now link (actions.Write answer) action
  not_yet now w = grind (arith, wrote_as)

  pub wrote_part : (now : ℕ)
      → ((first : LineSeen) → seen ≡ with_begun (answer_text answer) sent first → later ≡ with_begun (answer_text answer) now first)
      → ComesOn trace results.Part old seen sent link old later now link (actions.Write answer) action
  wrote_part now w = grind (arith, wrote_as)

-- The answer that the place for the next action lends is the one that the action writes.
pub writes_this : {action : Action} {lent : Answer} (writes : (answer : Answer) × (action ≡ actions.Write answer))
    → ((answer : Answer) → action ≡ actions.Write answer → lent ≡ answer) → action ≡ actions.Write lent
writes_this writes same = writes.1 ∙ ap actions.Write (sym (same writes.0 writes.1))

-- A step was submitted, and then the seat waits for its answer or took it.
pub submits_on : {K : Type 0} (trace : K → List Step → List Answer → K → Type 0) (first middle last : K) (old new : SeatMachine)
    (step : Step) (next : Action) → trace first (as_submitted step) [] middle → TakesOrWaits trace middle last old new next
    → HasSubmittedOn trace first last results.Moved old step new next
submits_on trace first middle last old new step next submits (inl waits) = grind arith
submits_on trace first middle last old new step next submits (inr took) = grind arith

-- What a seat did over its link if something moved.
module _ {K : Type 0} (trace : K → List Step → List Answer → K → Type 0) (first last : K) where
  pub uses_carried : (result : Progress) (old : SeatMachine) (seen : LineSeen) (action : Action) (sent : ℕ) (new : SeatMachine)
      (later : LineSeen) (next : Action) (now : ℕ) (submitted : List Step) (taken : List Answer)
      → HasGone trace first action submitted taken last → CarriedPart result old seen action sent new later next now submitted taken
      → Uses trace result first action last
  uses_carried result old seen action sent new later next now submitted taken g c = grind (arith, c.2 seen)
