-- An open connection so far, whatever action comes next: its steps, and what was written to it.
use Rattle.std.proofs.Common.{◌≡◌, ℕ, List, [], ◌∷◌, ◌++◌, Option, take}
use Rattle.std.proofs.Common.{refl, arith}
use Rattle.std.proofs.lemmas.Grind.{common_steps}
use Rattle.bq_job.specs.declared.answer.Answer.{Answer}
use Rattle.bq_job.specs.declared.line_end.LineFault.{LineFault}
use Rattle.bq_job.specs.declared.step.Step.{Step}
use Rattle.bq_job.specs.texts.AnswerText.{answer_text}
use Rattle.bq_job.specs.promise.LineSteps.{IsBeginning, LineHeard, LineSeen, answers_text, heard}
use Rattle.bq_job.specs.promise.SoFar.{IsLineOwedSoFar, IsStepsSoFar}
use Rattle.bq_job.proofs.BeginningLemmas.{begins_whole, texts_cut, texts_more}
use Rattle.bq_seat.specs.Past.{with_action}
use Rattle.bq_seat.specs.Served.{seen_line}
use Rattle.bq_seat.specs.declared.machine.Action.{Action}
use Rattle.bq_seat.specs.declared.machine.Action.TheVariants as actions
use Rattle.bq_seat.specs.declared.machine.SeatMachine.{SeatMachine}
use Rattle.bq_seat.proofs.StepsSoFarLemmas.{handed_stand, same_steps, steps_stand}
use Rattle.bq_line.specs.Attending.{IsOnLine, IsWrittenSo}
use Rattle.bq_line.specs.Carried.{with_part}
use Rattle.bq_line.proofs.SeatLemmas.{unbroken}
use Rattle.bq_line.proofs.WritingLemmas.{take_begins}

-- fewer steps
steps_fewer : (size : ℕ) (line : LineHeard) (all taken more : List Step) → all ≡ taken ++ more → IsStepsSoFar size line all
    → IsStepsSoFar size line taken
steps_fewer size line all taken more is s = grind (arith, common_steps)

written_begins : (fault : Option LineFault) (handed : List Answer) (bytes : List ℕ) → IsWrittenSo fault handed bytes
    → IsBeginning bytes (answers_text handed)
written_begins fault handed bytes w = grind (arith, common_steps, begins_whole)

-- ---- an open line

-- the connection while an action is carried out that writes nothing
quiet : (size : ℕ) (machine : SeatMachine) (line : LineSeen) (action : Action) (submitted more : List Step) (taken waiting : List Answer)
    → (o : IsOnLine size machine line action submitted taken) → (with_action action o.past).steps ≡ o.past.steps ++ more
    → (with_action action o.past).written ≡ o.past.written → (with_action action o.past).mail ≡ o.past.mail
    → heard (seen_line o.written (with_action action o.past)) ≡ heard (seen_line o.written o.past)
    → IsLineOwedSoFar size line submitted (taken ++ waiting)
quiet size machine line action submitted more taken waiting o steps_are written_is mail_is heard_is =
    let p = o.past in
    let q = with_action action p in
    rw (o.seen_is, ← o.submitted_is, o.taken_is) (record {
      of_steps = grind (arith, steps_fewer, steps_stand machine q o.written o.stands);
      written = grind (arith, texts_more, handed_stand machine q o.stands, written_begins p.fault p.written o.written o.writes);
    })

-- the connection while an answer is written
writing : (size : ℕ) (machine : SeatMachine) (line : LineSeen) (answer : Answer) (sent : ℕ) (submitted : List Step)
    (taken waiting : List Answer) → IsOnLine size machine line (actions.Write answer) submitted taken
    → IsLineOwedSoFar size (with_part (actions.Write answer) sent line) submitted (taken ++ waiting)
writing size machine line answer sent submitted taken waiting o =
    let p = o.past in
    let q = with_action (actions.Write answer) p in
    let cut : List ℕ = take sent (answer_text answer) in
    let begins = texts_cut (o.written ++ cut) cut p.written answer (grind (arith, unbroken)) (take_begins sent (answer_text answer)) in
    rw (o.seen_is, ← o.submitted_is, o.taken_is) (record {
      of_steps = grind (arith, steps_fewer, same_steps, steps_stand machine q o.written o.stands);
      written = grind (arith, texts_more, handed_stand machine q o.stands);
    })

-- Whatever action comes next: the connection's steps, and what was written to it, of the answers
-- that were taken for it and those that wait.
pub line_so_far : (size : ℕ) (machine : SeatMachine) (line : LineSeen) (action : Action) (sent : ℕ) (submitted : List Step)
    (taken waiting : List Answer) → IsOnLine size machine line action submitted taken
    → IsLineOwedSoFar size (with_part action sent line) submitted (taken ++ waiting)
line_so_far size machine line (actions.Submit step) sent submitted taken waiting o =
    quiet size machine line (actions.Submit step) submitted (step ∷ []) taken waiting o refl refl refl refl
line_so_far size machine line (actions.Write answer) sent submitted taken waiting o = search writing
line_so_far size machine line action sent submitted taken waiting o =
    quiet size machine line action submitted [] taken waiting o (same_steps o.past.steps) refl refl refl
