-- A run answers `Closed` at most once to each close.
use Rattle.std.proofs.Common.{ℕ, ◌≡◌, ◌+◌, ◌≤◌, List, [], ◌∷◌, ◌++◌}
use Rattle.std.proofs.Common.{map, length, refl, ap, ◌∙◌, arith}
use Rattle.std.proofs.lemmas.{Bool.{cases_Bool}, Grind.common_steps}
use Rattle.bq_job.specs.beside.{AreLinesServed, closes, closings}
use Rattle.bq_job.specs.machine.{GivenAnswer, IsStep, Machine.Machine, Memory, Outcome, acted}
use Rattle.bq_job.specs.promise.{Entry, IsStepsOfLine, LineHeard, LineOver, Run, answers_to, heard, steps_at}
use Rattle.bq_job.specs.Types.{Answer, LineEnd, Request, Step}
use Rattle.bq_job.specs.declared.answer.Answer.TheVariants as answers
use Rattle.bq_job.specs.declared.step.Step.TheVariants as steps
use Rattle.bq_job.proofs.ClientStepLemmas.{answers_of_parts, parts_of}
use Rattle.bq_job.proofs.{CommandKinds.kind_of, CutLemmas.{closes_append, unclosed_closes}, EachEvent.each_acted}
use Rattle.bq_job.proofs.{GivenLemmas.{Along, run_along}, ReplyLemmas.told}

pub closings_append : (xs ys : List Step) → closings (xs ++ ys) ≡ closings xs + closings ys
closings_append [] ys = omega arith
closings_append (steps.Close ∷ xs) ys = omega (arith, closings_append xs ys)
closings_append (x ∷ xs) ys = closings_append xs ys

-- ---- one step

closes_most : (xs : List Answer) → closes xs ≤ length xs
closes_most [] = omega arith
closes_most (answers.Closed ∷ xs) = omega (arith, closes_most xs)
closes_most (x ∷ xs) = omega (arith, closes_most xs)

own_closes : (memory : Memory) (m : Machine) (seat : ℕ) (what : Step)
    → closes (told (acted memory m seat what).answer) ≤ closings (what ∷ [])
own_closes memory m seat what = grind (arith, closes_most, told, common_steps, cases_Bool, each_acted, kind_of)

-- a step at the seat
here_closes : (first last : Machine) (at t : ℕ) (what : Step) (outcome : Outcome) (given : List GivenAnswer)
    → IsStep first at t what outcome given last → closes (answers_to t given) ≤ closings (what ∷ [])
here_closes first last at t what outcome given step =
    let p = parts_of t first last at t what outcome given step in
    let all = answers_of_parts t (acted p.memory p.before t what).answer p.early p.late given p.given_is in
    grind (arith, closes_append, unclosed_closes, own_closes)

-- ---- a run

along_closes : (t : ℕ) (ss : List Step) (m : Machine) (given : List Answer) → Along t ss m given → closes given ≤ closings ss
along_closes t [] m given (before, early, rest, h, is, a) = grind (arith, closes_append, unclosed_closes)
along_closes t (what ∷ ss) m given (before, early, rest, h, is, a) =
    let first = unclosed_closes early h.gets.unclosed in
    let now = here_closes before a.next a.moment t what a.outcome a.now a.step in
    let more = along_closes t ss a.next a.later a.rest in
    let all = ap closes is ∙ closes_append early rest in
    let own = ap closes a.given_is ∙ closes_append (answers_to t a.now) a.later in
    omega (arith, closings_append (what ∷ []) ss)

pub run_closes : (t : ℕ) (m last : Machine) (history : List Entry) (given : List GivenAnswer) → Run m history given last
    → closes (answers_to t given) ≤ closings (steps_at t history)
run_closes t m last history given r = along_closes t (steps_at t history) m (answers_to t given) (run_along t m last history given r)

-- ---- the steps of a line

asked_closings : (asked : List Request) → closings (map steps.Ask asked) ≡ 0
asked_closings [] = refl
asked_closings (request ∷ asked) = asked_closings asked

pub asked_steps_closings : (asked : List Request) (end_steps : List Step) → closings end_steps ≡ 0
    → closings (steps.Connect ∷ [] ++ map steps.Ask asked ++ end_steps) ≡ 0
asked_steps_closings asked end_steps none = grind (arith, common_steps, cases_Bool, closings_append, asked_closings)

-- A connection that has ended was closed once.
pub line_closings : (size : ℕ) (line : LineHeard) (over : LineEnd) (taken : List Step) → IsStepsOfLine size line over taken
    → closings taken ≡ 1
line_closings size line over taken l = grind (arith, common_steps, cases_Bool, closings_append, asked_steps_closings)

pub lines_closings : (size : ℕ) (lines : List LineOver) (own : List Step) (taken : List Answer) → AreLinesServed size lines own taken
    → closings own ≡ length lines
lines_closings size [] own taken h = ap closings h.0
lines_closings size (line ∷ lines) own taken h =
    ap closings h.5 ∙ closings_append h.0 h.1
    ∙ (let a = line_closings size (heard line.seen) line.over h.0 h.4.line_owed.steps in
    let b = lines_closings size lines h.1 h.3 h.7 in omega arith)
