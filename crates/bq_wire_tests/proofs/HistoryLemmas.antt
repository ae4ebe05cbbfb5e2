-- A computed run as part of a history, and the connections of a door with their steps.
use Rattle.std.proofs.Common.{◌≡◌, ℕ, suc, Bool, true, false, List, [], ◌∷◌, ◌++◌}
use Rattle.std.proofs.Common.{map, length, Option, ◌⊎◌, refl, ap, inl, inr, arith, rules, subst, ◌∙◌, append_assoc}
use Rattle.std.specs.Prelude.{codes}
use Rattle.std.proofs.lemmas.{Bool.cases_Bool, Grind.common_steps}
use Rattle.std.specs.List.{list_any}
use Rattle.bq_job.specs.promise.{AreAllAnswered, AreDoorsOwed, AreLinesOwed, ArePickedFrom, AreSeatsUpTo, Entry, IsControlDone}
use Rattle.bq_job.specs.promise.{IsDoorOwed, IsLineOwed, IsOverBy, IsRun, IsStepsOfLine, IsTimedBy, IsWritten, LineHeard, LineOver}
use Rattle.bq_job.specs.promise.{IsDoorOwedSoFar, MayTellEnd, answered_count, heard, steps_at}
use Rattle.bq_job.specs.beside.{AreSameRequests, machine_after, reading, transition, transitions}
use Rattle.bq_job.specs.{declared.request.Request.TheVariants.Reserve, machine.{Settings, has_closed, new_machine}}
use Rattle.bq_wire_tests.specs.examples.HistoryExamples.{AreServedOver, closing_after, ended_line, given_over, readings_of, seated, usual}
use Rattle.bq_job.specs.{machine.Machine.Machine, reading.Reading.Reads}
use Rattle.bq_job.specs.declared.{answer.Answer.Answer, request.Request.Request, step.Step.Step}
use Rattle.bq_job.specs.declared.step.Step.TheVariants as steps
use Rattle.bq_job.specs.declared.answer.Answer.TheVariants as answers
use Rattle.bq_job.proofs.{ComputedRunLemmas.computed_goes, CutLemmas.same_cut, ReadsLemmas.reading-Reads}

-- all of the moments are some of the moments
pub picked_all : (moments : List ℕ) → ArePickedFrom moments moments
picked_all [] = tt
picked_all (moment ∷ moments) = inl (refl, picked_all moments)

entries_stay : (m : Machine) (history : List Entry) → map (λ t. t.entry) (transitions m history) ≡ history
entries_stay m [] = refl
entries_stay m (e ∷ history) = ap (λ xs. e ∷ xs) (entries_stay (transition m e).last history)

-- what is computed over a timed history is a run
pub computed_IsRun : (settings : Settings) (readings : List (Option ℕ)) (history : List Entry) → IsTimedBy readings history
    → IsRun settings readings history (given_over settings history) (machine_after (new_machine settings) history)
computed_IsRun settings readings history timed =
    let first : Machine = new_machine settings in
    record {
      runs = (
        map (λ t. t.outcome) (transitions first history),
        (grind (arith, common_steps, transitions first history, computed_goes first history, entries_stay first history)),
      );
      timed = timed;
    }

-- What is computed over a history serves these doors if it gives each connection what it is owed.
pub served_so : (history : List Entry) (doors : List (List LineOver)) (control : List ℕ)
    → IsTimedBy (readings_of history) history → AreDoorsOwed usual 0 doors history (given_over (seated (length doors)) history)
    → IsControlDone control false (steps_at (length doors) history) → AreSeatsUpTo (length doors) history
    → AreServedOver history doors control
served_so history doors control timed owed done nobody = search (rules, computed_IsRun)

-- A connection whose whole text was read as these requests; of these, `asked` were submitted.
pub line_so : (line : LineOver) (read asked : List Request) (given : List Answer)
    → reading usual line.seen.read ≡ (read, []) → IsOverBy (heard line.seen) line.over read asked → AreAllAnswered line.over asked given
    → IsWritten line.over asked given line.seen.written
    → IsLineOwed usual line (steps.Connect ∷ [] ++ map steps.Ask asked ++ [] ++ steps.Close ∷ []) given
line_so line read asked given is_read over answered written =
    let reads = subst (λ (r : List Request × List ℕ). Reads usual line.seen.read r.0 r.1) is_read (reading-Reads usual line.seen.read) in
    let s : IsStepsOfLine usual (heard line.seen) line.over (steps.Connect ∷ [] ++ map steps.Ask asked ++ [] ++ steps.Close ∷ []) =
    grind (arith, common_steps) in
    record { steps = s; answered = answered; written = written }

-- one more connection, in front of others
pub lines_so : (line : LineOver) (lines : List LineOver) (own more : List Step) (given later : List Answer)
    → IsLineOwed usual line own given → has_closed given ≡ false → AreLinesOwed usual lines more later
    → AreLinesOwed usual (line ∷ lines) (own ++ more) (given ++ answers.Closed ∷ later)
lines_so line lines own more given later owed unclosed rest = (own, more, given, later, owed, unclosed, refl, refl, rest)

-- two readings of a text have equally many requests
pub same_many : (firsts seconds : List Request) → AreSameRequests firsts seconds → length firsts ≡ length seconds
same_many [] [] h = refl
same_many [] (second ∷ seconds) h = absurd h
same_many (first ∷ firsts) [] h = absurd h
same_many (first ∷ firsts) (second ∷ seconds) h = ap suc (same_many firsts seconds h.1)

-- a list that ends with a step is not empty
pub none_behind : (xs : List Step) → [] ≡ xs ++ steps.Gone ∷ [] → ⊥
none_behind xs e = grind (arith, common_steps, cases_Bool)

abbrev is_close : Step → Bool
is_close steps.Close = true
is_close _ = false

close_before : (xs ys : List Step) → list_any is_close xs ≡ true → list_any is_close (xs ++ ys) ≡ true
close_before [] ys h = absurd cc
close_before (steps.Close ∷ xs) ys h = refl
close_before (x ∷ xs) ys h = close_before xs ys h

-- if there is a connection, there is a close
lines_are_shut : (size : ℕ) (lines : List LineOver) (own : List Step) (given : List Answer) → AreLinesOwed size lines own given
    → (own ≡ []) ⊎ (list_any is_close own ≡ true)
lines_are_shut size [] own given h = inl h.0
lines_are_shut size (line ∷ lines) own given h = grind (arith, common_steps, close_before)

-- no connections have these steps
pub dropped_none : (lines : List LineOver) (given : List Answer)
    → IsDoorOwed usual lines (steps.Connect ∷ steps.Ask Reserve ∷ steps.Gone ∷ []) given → ⊥
dropped_none lines given h = grind (arith, common_steps, lines_are_shut, close_before)

-- A connection that submitted a reserve wants an answer to it.
pub reserve_wants : (line : LineHeard) (asked : List Request) (end_steps more current rest : List Step) → MayTellEnd line asked end_steps
    → steps.Connect ∷ steps.Ask Reserve ∷ rest
    ≡ ((steps.Connect ∷ [] ++ map steps.Ask asked ++ end_steps ++ steps.Close ∷ []) ++ more) ++ current
    → answered_count asked ≡ 0 → ⊥
reserve_wants line [] end_steps more current rest (inl e) is none = let z = rw e at is in cc
reserve_wants line [] end_steps more current rest (inr e) is none = let z = rw e.0 at is in cc
reserve_wants line (request ∷ asked) end_steps more current rest m is none =
    let same : request ≡ Reserve = cc in
    let wants : answered_count (Reserve ∷ asked) ≡ 0 = subst (λ (r : Request). answered_count (r ∷ asked) ≡ 0) same none in
    omega arith

-- The reserve of a connection that has ended is not answered by the `Closed` of a later one.
pub not_closed_later : IsDoorOwedSoFar usual (closing_after (ended_line (codes "reserve\r\n") []))
    (steps.Connect ∷ steps.Ask Reserve ∷ steps.Close ∷ steps.Connect ∷ steps.Close ∷ []) (answers.Closed ∷ answers.Closed ∷ []) → ⊥
not_closed_later h =
    let l = h.of_lines in
    let s = l.4.steps in
    let cut = same_cut [] l.2 (answers.Closed ∷ []) (l.3 ++ h.later) refl l.5
    (h.answers_are ∙ ap (λ (xs : List Answer). xs ++ h.later) l.7 ∙ append_assoc l.2 (answers.Closed ∷ l.3) h.later) in
    reserve_wants (heard (ended_line (codes "reserve\r\n") []).seen) s.asked s.end_steps l.1 h.current
    (steps.Close ∷ steps.Connect ∷ steps.Close ∷ []) s.ends
    (h.taken_is ∙ ap (λ (xs : List Step). xs ++ h.current) (l.6 ∙ ap (λ (xs : List Step). xs ++ l.1) s.steps_are))
    (let a = l.4.answered in let n = ap length cut.0 in omega arith)
