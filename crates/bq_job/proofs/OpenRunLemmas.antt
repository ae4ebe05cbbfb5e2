-- Runs that have not ended: once all seats are gone, what is owed so far is the final promise.
use Rattle.std.proofs.Common.{◌≡◌, ℕ, suc, zero, ◌+◌, ◌≤◌, ◌<◌, Bool, true, false, List, [], ◌∷◌, ◌++◌, Option, Some, None}
use Rattle.std.proofs.Common.{map, length, replicate, refl, sym, ap, ◌∙◌, arith, append-nil, append_assoc}
use Rattle.std.proofs.lemmas.Grind.{common_steps}
use Rattle.std.proofs.lemmas.{Bool.{cases_Bool, or_from}, List.{Folds.list_any-append, length-map, map-append}}
use Rattle.std.specs.List.{list_all, list_any}
use Rattle.bq_job.specs.machine.{GivenAnswer, Machine.Machine, Settings, new_machine}
use Rattle.bq_job.specs.promise.{AreAllGone, AreDoorsOwed, AreDoorsOwedSoFar, AreLinesOwed, ArePickedFrom, DoorSoFar, Entry}
use Rattle.bq_job.specs.promise.{IsControlDone, IsDoorOwedSoFar, IsHistoryOf, IsHistorySoFar, IsOutOwed, IsRun}
use Rattle.bq_job.specs.promise.{LineOver, LineSeen, Run, answers_to, is_gone, steps_at}
use Rattle.bq_job.specs.{laws.LawsOfRuns.RunBegins, Types.{Answer, Request, Step}}
use Rattle.bq_job.specs.declared.step.Step.TheVariants as steps
use Rattle.bq_job.proofs.{JoinLemmas.owed_all, ListLemmas.{heads, none_in_parts}}
use Rattle.bq_job.proofs.RunLemmas.{run_first, run_from, run_none}

-- ---- a line never says that no more lines come

asks_go_on : (asked : List Request) → list_any is_gone (map steps.Ask asked) ≡ false
asks_go_on [] = refl
asks_go_on (request ∷ asked) = asks_go_on asked

both_go_on : (xs ys : List Step) → list_any is_gone xs ≡ false → list_any is_gone ys ≡ false → list_any is_gone (xs ++ ys) ≡ false
both_go_on xs ys h i = list_any-append is_gone xs ys ∙ or_from (list_any is_gone xs) (list_any is_gone ys) h i

lines_go_on : (size : ℕ) (lines : List LineOver) (own : List Step) (got : List Answer) → AreLinesOwed size lines own got
    → list_any is_gone own ≡ false
lines_go_on size [] own got h = ap (λ (xs : List Step). list_any is_gone xs) h.0
lines_go_on size (line ∷ lines) own got h =
    let l = h.4.steps in
    grind (arith, both_go_on, common_steps, asks_go_on, lines_go_on size lines h.1 h.3 h.8)

-- ---- a door that is gone

out_is_gone : (size : ℕ) (out : Option LineSeen) (taken : List Step) (answers : List Answer) → IsOutOwed size out taken answers
    → list_any is_gone taken ≡ true → taken ≡ steps.Gone ∷ []
out_is_gone size None taken answers h gone = grind (arith, common_steps)
out_is_gone size (Some line) taken answers h gone =
    let s = h.of_steps in
    grind (arith, none_in_parts is_gone taken s.more, common_steps, both_go_on, asks_go_on)

module _ (settings : Settings) (history : List Entry) (all : List GivenAnswer) (last : Machine)
    (runs : Run (new_machine settings) history all last) where
  -- The connections of a door without an open one are owed what the run gives the seat.
  door_owed : (seat : ℕ) (door : DoorSoFar) → seat < settings.seats
      → (d : IsDoorOwedSoFar settings.max_job_size door (steps_at seat history) (answers_to seat all)) → list_all is_gone d.current ≡ true
      → AreLinesOwed settings.max_job_size door.over d.own (answers_to seat all)
  door_owed seat door within d gone = search owed_all

  pub idle_door_owed : (seat : ℕ) (door : DoorSoFar) → seat < settings.seats
      → IsDoorOwedSoFar settings.max_job_size door (steps_at seat history) (answers_to seat all) → door.out ≡ None
      → (own : List Step) × AreLinesOwed settings.max_job_size door.over own (answers_to seat all)
  idle_door_owed seat door within d idle = grind (arith, door_owed)

  doors_final : (seat : ℕ) (doors : List DoorSoFar) → seat + length doors ≤ settings.seats
      → AreDoorsOwedSoFar settings.max_job_size seat doors history all → AreAllGone settings.seats history
      → AreDoorsOwed settings.max_job_size seat (map (λ (d : DoorSoFar). d.over) doors) history all
  doors_final seat [] few h gone = tt
  doors_final seat (door ∷ doors) few h gone =
      let d = h.0 in
      let last = gone seat (omega arith) in
      let is : d.current ≡ steps.Gone ∷ [] = grind (arith, common_steps, cases_Bool, out_is_gone, list_any-append, lines_go_on) in
      grind (arith, common_steps, door_owed seat door, doors_final (suc seat) doors)

-- ---- a control line that is gone

gone_is_last : (n : ℕ) (xs rest : List Step) → xs ++ rest ≡ replicate n steps.Drain ++ steps.Gone ∷ [] → list_any is_gone xs ≡ true
    → rest ≡ []
gone_is_last n [] rest e gone = absurd cc
gone_is_last zero (x ∷ xs) rest e gone = nothing xs rest (heads x steps.Gone (xs ++ rest) [] e).1
  where
    nothing : (ys zs : List Step) → ys ++ zs ≡ [] → zs ≡ []
    nothing [] zs e = e
    nothing (y ∷ ys) zs e = absurd cc
gone_is_last (suc n) (x ∷ xs) rest e gone = grind (arith, common_steps, cases_Bool, heads, gone_is_last n xs rest)

-- ---- the whole

pub final_once_gone : (settings : Settings) (doors : List DoorSoFar) (control : List ℕ) (failed : Bool) (readings : List (Option ℕ))
    (last : Machine) (h : IsHistorySoFar settings doors control failed readings last) → AreAllGone settings.seats h.history
    → IsHistoryOf settings (map (λ (d : DoorSoFar). d.over) doors) control failed readings last
final_once_gone settings doors control failed readings last h gone =
    let doors_owed = doors_final settings h.history h.given last h.run.runs 0 doors (let a = h.many in omega arith) h.of_doors gone in
    let last = gone settings.seats (omega arith) in
    let control_done : IsControlDone control failed (steps_at settings.seats h.history) =
    grind (arith, common_steps, append-nil, gone_is_last, h.of_control) in
    grind (arith, length-map doors (λ (d : DoorSoFar). d.over))

-- ---- the first entries of a run

run_cut : (first last : Machine) (early late : List Entry) (given : List GivenAnswer) → Run first (early ++ late) given last
    → (now later : List GivenAnswer) × (machine : Machine) × Run first early now machine × (given ≡ now ++ later)
run_cut first last [] late given r = ([], given, first, run_none first, refl)
run_cut first last (e ∷ early) late given r =
    let b = run_first first last e (early ++ late) given r in
    let c = run_cut b.next last early late b.more b.rest in (
      b.now ++ c.0,
      c.1,
      c.2,
      run_from first b.next c.2 e early b.outcome b.now c.0 b.step c.3,
      b.given_is ∙ ap (λ (xs : List GivenAnswer). b.now ++ xs) c.4 ∙ sym (append_assoc b.now c.0 c.1),
    )

picked_first : (xs ys moments : List ℕ) → ArePickedFrom (xs ++ ys) moments → ArePickedFrom xs moments
picked_first [] ys moments h = tt
picked_first (x ∷ xs) ys [] h = absurd h
picked_first (x ∷ xs) ys (moment ∷ moments) h = grind (arith, picked_first xs ys moments, picked_first (x ∷ xs) ys moments)

pub run_begins : (settings : Settings) (readings : List (Option ℕ)) (early late : List Entry) (given : List GivenAnswer) (last : Machine)
    → IsRun settings readings (early ++ late) given last → RunBegins settings readings early given
run_begins settings readings early late given last r =
    grind (arith, picked_first, map-append, run_cut (new_machine settings) last early late given r.runs)
