-- What the seats did fits what the core did.
use Rattle.std.proofs.Common.{Option, ◌≡◌, ℕ, suc, ◌+◌, ◌≤◌, ◌<◌, Bool, true, false, ◌&&◌, List, [], ◌∷◌}
use Rattle.std.proofs.Common.{◌++◌, map, length, refl, sym, ap, ◌∙◌, arith, subst, append-nil, append_assoc}
use Rattle.std.proofs.lemmas.{Bool.and_right, Grind.common_steps, List.length-append}
use Rattle.std.specs.{List.{list_all}, Prelude.{◌==◌, IsTrue}}
use Rattle.bq_job.specs.machine.{GivenAnswer, Machine.Machine, SeatRecord, Settings, empty_seat}
use Rattle.bq_job.specs.machine.{has_closed, is_waiting}
use Rattle.bq_job.specs.promise.{AreAllAnswered, AreDoorsOwed, AreLinesOwed, Entry, IsHistoryOf, IsHistoryOfLine}
use Rattle.bq_job.specs.promise.{IsLineOwed, IsStepsOfLine, IsWritten}
use Rattle.bq_job.specs.beside.{AreLinesServed, AreTied, IsJoined, IsLineJoined, IsLineServed, IsNoneUnwritten, closes, closings}
use Rattle.bq_job.specs.{machine.{new_machine, numbers}, promise.{LineOver, Run, answered_count, answers_text}}
use Rattle.bq_job.specs.{promise.{answers_to, ends_by_wait, heard, is_gone, steps_at}, Types.{Answer, LineEnd, Request, Step}}
use Rattle.bq_job.specs.declared.answer.Answer.TheVariants as answers
use Rattle.bq_job.specs.declared.line_end.LineEnd.TheVariants as ends
use Rattle.bq_job.specs.declared.step.Step.TheVariants as steps
use Rattle.bq_job.proofs.ListLemmas.{all_always, all_of_map, list_any_not}
use Rattle.bq_job.proofs.{ClosedLemmas.{closings_append, lines_closings, run_closes}, CutLemmas.{closes_append, closes_unclosed}}
use Rattle.bq_job.proofs.{CutLemmas.{lines_close, same_cut}, GivenLemmas.{GoesOn, IsFree, line_wants, nothing_behind}}
use Rattle.bq_job.proofs.GivenLemmas.{run_along, whole_line, within_asked}
use Rattle.bq_job.proofs.{LawfulLemmas.new_is_lawful, OneClientLemmas.unclosed_append}
use Rattle.std.proofs.lemmas.Bool.{both_ways, cases_Bool}

-- the answer to the last reserve came too late to be written
late_one : (asked : List Request) (own others : List Answer) (written : List ℕ) → IsTrue (ends_by_wait asked)
    → length own + 1 ≡ answered_count asked → length (own ++ others) ≤ answered_count asked → written ≡ answers_text own
    → AreAllAnswered ends.ReadFault asked (own ++ others) × IsWritten ends.ReadFault asked (own ++ others) written
late_one asked own [] written waits h i w = grind (arith, common_steps)
late_one asked own (a ∷ []) written waits h i w = grind (arith, common_steps, length-append)
late_one asked own (a ∷ b ∷ others) written waits h i w = absurd (omega (arith, length-append own (a ∷ b ∷ others)))

is_done : (over : LineEnd) (asked : List Request) (own others : List Answer) (written : List ℕ) → AreAllAnswered over asked own
    → length (own ++ others) ≤ answered_count asked → IsWritten over asked own written → IsNoneUnwritten over own written
    → AreAllAnswered over asked (own ++ others) × IsWritten over asked (own ++ others) written
is_done over asked own others written a i w none = grind (arith, common_steps, late_one)

-- A connection that was given at most as many answers as it wanted is owed exactly those that it
-- took and wrote.
line_owed : (size : ℕ) (line : LineOver) (own : List Step) (got part : List Answer) (l : IsLineServed size line own got)
    → part ≡ l.own ++ l.others → length part ≤ answered_count l.line_owed.steps.asked → IsLineOwed size line own part
line_owed size line own got part l is few =
    let done = is_done line.over l.line_owed.steps.asked l.own l.others line.seen.written l.line_owed.answered
    (rw is at few) l.line_owed.written l.none_unwritten in
    rw is (record { steps = l.line_owed.steps; answered = done.0; written = done.1 })

-- The run gives one connection this part, which it wants, and goes on after its `Closed`.
line_cut : (t size : ℕ) (line : LineOver) (own tail : List Step) (part later : List Answer)
    → (s : IsStepsOfLine size (heard line.seen) line.over own) → has_closed part ≡ false
    → GoesOn t (own ++ tail) (part ++ answers.Closed ∷ later) → (length part ≤ answered_count s.asked) × GoesOn t tail later
line_cut t size line own tail part later s unclosed goes =
    let ss = map steps.Ask s.asked ++ s.end_steps in
    let whole : own ++ tail ≡ steps.Connect ∷ (ss ++ steps.Close ∷ tail) = grind (arith, common_steps) in
    let e = whole_line t ss tail (part ++ answers.Closed ∷ later) (grind (arith, common_steps, cases_Bool, within_asked))
    (rw whole at goes) in
    let cut = same_cut e.part part e.later later e.unclosed unclosed (sym e.given_is) in
    let few = ap length cut.0 in
    let most = e.few in
    (omega (arith, line_wants (heard line.seen) s.asked s.end_steps s.ends), rw cut.1 at e.goes)

-- Connections that took a first part of what they were given, and no `Closed` but one each, are
-- owed exactly what they took. The run goes on after them.
lines_owed : (t size : ℕ) (lines : List LineOver) (own tail : List Step) (taken more : List Answer) → AreLinesServed size lines own taken
    → closes taken ≤ length lines → GoesOn t (own ++ tail) (taken ++ more) → AreLinesOwed size lines own taken × GoesOn t tail more
lines_owed t size [] own tail taken more h few goes = (h, rw (h.0, h.1) at goes)
lines_owed t size (line ∷ lines) own tail taken more h few goes =
    let l = h.4 in
    let part = l.own ++ l.others in
    let served = lines_close size lines h.1 h.3 h.7 in
    let none : (closes l.own ≡ 0) × (closes h.3 ≤ length lines) = grind (arith, common_steps, closes_append) in
    let unclosed : has_closed part ≡ false = unclosed_append l.own l.others (closes_unclosed l.own none.0) l.none_closed in
    let took : taken ≡ part ++ answers.Closed ∷ h.3 = grind (arith, common_steps, cases_Bool, append_assoc) in
    let cut = line_cut t size line h.0 (h.1 ++ tail) part (h.3 ++ more) l.line_owed.steps unclosed (grind (arith, append_assoc)) in
    let rest = lines_owed t size lines h.1 tail h.3 more h.7 none.1 cut.1 in
    ((h.0, h.1, part, h.3, line_owed size line h.0 h.2 part l refl cut.0, unclosed, h.5, took, rest.0), rest.1)

-- The run goes on after connections that are owed what they took.
lines_over : (t size : ℕ) (lines : List LineOver) (own tail : List Step) (taken more : List Answer) → AreLinesOwed size lines own taken
    → GoesOn t (own ++ tail) (taken ++ more) → GoesOn t tail more
lines_over t size [] own tail taken more h goes = rw (h.0, h.1) at goes
lines_over t size (line ∷ lines) own tail taken more h goes =
    lines_over t size lines h.1 tail h.3 more h.8
    (line_cut t size line h.0 (h.1 ++ tail) h.2 (h.3 ++ more) h.4.steps h.5 (grind (arith, append_assoc))).1

-- In a new model no seat is taken, and no client waits.
starts_free : (t : ℕ) (settings : Settings) → t < settings.seats → IsFree t (new_machine settings)
starts_free t settings within =
    let none = λ (q : SeatRecord → Bool) (h : (n : ℕ) → q (empty_seat n) ≡ false).
    list_any_not (λ s. s.number == t && q s) _ (all_of_map _ empty_seat (numbers 0 settings.seats)
    (all_always _ _ (λ n. and_right (n == t) (q (empty_seat n)) (h n)))) in
    let waits = none is_waiting (λ n. refl) in
    record {
      serves = record { lawful = new_is_lawful settings; within = within };
      free = none (λ s. s.connected) (λ n. refl);
      owes = rw waits refl;
    }

gone_closings : (taken : List Step) → list_all is_gone taken ≡ true → closings taken ≡ 0
gone_closings [] gone = refl
gone_closings (steps.Gone ∷ taken) gone = gone_closings taken gone
gone_closings (what ∷ taken) gone = absurd (both_ways false refl gone)

-- The run gives the seat the answers of its connections, one after another.
module _ (settings : Settings) (size t : ℕ) (lines : List LineOver) (own tail : List Step) (taken more : List Answer)
    (history : List Entry) (all : List GivenAnswer) (last : Machine) (within : t < settings.seats)
    (runs : Run (new_machine settings) history all last) (steps_are : steps_at t history ≡ own ++ tail)
    (answers_are : answers_to t all ≡ taken ++ more) where
  goes : GoesOn t (own ++ tail) (taken ++ more)
  goes = (
    new_machine settings,
    starts_free t settings within,
    rw (steps_are, answers_are) at (run_along t (new_machine settings) last history all runs),
  )

  -- If no more connections come, all that the seat was given is what they are owed.
  all_taken : list_all is_gone tail ≡ true → GoesOn t tail more → answers_to t all ≡ taken
  all_taken gone (m, free, a) =
      answers_are ∙ ap (λ (xs : List Answer). taken ++ xs) (nothing_behind t tail m more free.serves free.owes gone a) ∙ append-nil taken

  pub owed_all : list_all is_gone tail ≡ true → AreLinesOwed size lines own taken → AreLinesOwed size lines own (answers_to t all)
  owed_all gone owed =
      subst (AreLinesOwed size lines own) (sym (all_taken gone (lines_over t size lines own tail taken more owed goes))) owed

  pub seat_owed : list_all is_gone tail ≡ true → AreLinesServed size lines own taken → AreLinesOwed size lines own (answers_to t all)
  seat_owed gone served =
      let most = run_closes t (new_machine settings) last history all runs in
      let a = ap closes answers_are ∙ closes_append taken more in
      let b = ap closings steps_are ∙ closings_append own tail in
      let few : closes taken ≤ length lines = omega (arith, lines_closings size lines own taken served, gone_closings tail gone) in
      owed_all gone (lines_owed t size lines own tail taken more served few goes).0

  -- The connections that have ended at a seat that is open, or not yet gone, are owed what they took.
  pub seat_owed_so_far : closes taken ≤ length lines → AreLinesServed size lines own taken → AreLinesOwed size lines own taken
  seat_owed_so_far few served = (lines_owed t size lines own tail taken more served few goes).0

pub doors_owed : (settings : Settings) (size : ℕ) (seat : ℕ) (doors : List (List LineOver)) (submitted : ℕ → List Step)
    (taken waiting : ℕ → List Answer) (history : List Entry) (all : List GivenAnswer) (last : Machine)
    → seat + length doors ≤ settings.seats → Run (new_machine settings) history all last
    → AreTied size seat doors submitted taken waiting history all → AreDoorsOwed size seat doors history all
doors_owed settings size seat [] submitted taken waiting history all last few runs tied = tt
doors_owed settings size seat (lines ∷ doors) submitted taken waiting history all last few runs tied =
    let done = tied.2 in
    grind (
      arith,
      seat_owed settings size seat lines done.own (steps.Gone ∷ []) (taken seat) (waiting seat) history all last,
      doors_owed settings size (suc seat) doors submitted taken waiting history all last,
    )

pub joined : (settings : Settings) (doors : List (List LineOver)) (control : List ℕ) (failed : Bool) (readings : List (Option ℕ))
    (history : List Entry) (given : List GivenAnswer) (last : Machine)
    → IsJoined settings doors control failed readings history given last → IsHistoryOf settings doors control failed readings last
joined settings doors control failed readings history given last j =
    grind (arith, doors_owed settings settings.max_job_size 0 doors j.submitted j.taken j.waiting history given last)

pub line_joined : (settings : Settings) (seat : ℕ) (line : LineOver) (readings : List (Option ℕ)) (history : List Entry)
    (given : List GivenAnswer) (last : Machine)
    → IsLineJoined settings seat line readings history given last → IsHistoryOfLine settings seat line readings
line_joined settings seat line readings history given last j =
    let owed = seat_owed settings settings.max_job_size seat (line ∷ []) (steps_at seat history) [] j.taken j.waiting history given last
    j.within j.run.runs (sym (append-nil (steps_at seat history))) j.answers_are refl j.served in
    grind arith

-- one more connection has ended
pub lines_more : (size : ℕ) (lines : List LineOver) (line : LineOver) (submitted more : List Step) (taken got : List Answer)
    → AreLinesServed size lines submitted taken → IsLineServed size line more got
    → AreLinesServed size (lines ++ line ∷ []) (submitted ++ more) (taken ++ got)
lines_more size [] line submitted more taken got h l = grind (arith, common_steps, append-nil)
lines_more size (first ∷ lines) line submitted more taken got h l =
    grind (arith, append_assoc h.0 h.1 more, append_assoc h.2 h.3 got, lines_more size lines line h.1 more h.3 got h.7 l)
