-- The answers of a step: which part gives RESERVED, INSERTED and DELETED, that draining never
-- ends, and that a refused command changes nothing.
use Rattle.std.proofs.Common.{IsTrue, List, Some, ap, append-nil, arith, false, filter, inl, inr, nat_le, not, refl, subst, true, ℕ, ◌==◌}
use Rattle.std.proofs.{Common.{◌∙◌, ◌≡◌, ◌⊎◌}, lemmas.Bool.{or_right}, lemmas.Grind.common_steps}
use Rattle.bq_job.proofs.{CommandKinds.kind_of, EachEvent.each_acted, EffectKinds.{Kind, SaysDone, adds, changes_jobs, changes_seat}}
use Rattle.bq_job.proofs.{EffectKinds.{changes_tube, deletes, is_common, passes, tells, waits}, LawfulLemmas.lawful_before}
use Rattle.bq_job.proofs.QuietLemmas.{forgets_nothing, serves_nobody}
use Rattle.bq_job.specs.{Types.{Answer, Job, Request, Step}, beside.{ChangesNothing, IsLawful, is_refusal}, machine.{Effect, GivenAnswer}}
use Rattle.bq_job.specs.machine.{IsStep, Memory, Outcome, SeatRecord, acted, forgetting, is_held_by, is_reserved}
use Rattle.bq_job.specs.{machine.{job_with, last_id, silent, telling}, machine.Machine.Machine, promise.parts_of}
use Rattle.bq_job.specs.declared.answer.Answer.TheVariants as answers
use Rattle.bq_job.specs.declared.request.Request.TheVariants as requests
use Rattle.bq_job.specs.declared.step.Step.TheVariants as steps

-- an effect whose answer is a refusal only if it changed nothing
abbrev Honest : Machine → Effect → Type 0
Honest m e = (answer : Answer) → e.answer ≡ Some answer → is_refusal answer ≡ true → e.machine ≡ m

unchanged : (m : Machine) (answer : Answer) → Honest m (telling answer m)
unchanged m answer = λ a e r. refl

unanswered : (m n : Machine) → Honest m (silent n)
unanswered m n = λ a e r. absurd cc

done : (m n : Machine) (answer : Answer) → is_refusal answer ≡ false → Honest m (telling answer n)
done m n answer other a e r = grind arith

-- what a command at the seat answers, and what then holds
pub data Tells (m : Machine) (seat : ℕ) (what : Step) (e : Effect) : Type 0 where
  commonly : is_common e.answer ≡ true → Honest m e → Tells m seat what e
  reserving : (id : ℕ) (body : List ℕ) → what ≡ steps.Ask (requests.ReserveJob id) → e.answer ≡ Some (answers.Reserved id body)
      → Tells m seat what e
  inserting : e.answer ≡ Some (answers.Inserted m.next_id) → m.draining ≡ false
      → (nat_le last_id m.next_id ≡ true → e.machine.draining ≡ true) → Tells m seat what e
  deleting : (id : ℕ) (j : Job) → what ≡ steps.Ask (requests.Delete id) → job_with id m.jobs ≡ Some j
      → (is_reserved j.state ≡ false) ⊎ (is_held_by seat j ≡ true) → e.answer ≡ Some answers.Deleted
      → e.machine.jobs ≡ filter (λ k. not (k.id == j.id)) m.jobs → Tells m seat what e

tells_done : (m : Machine) (seat : ℕ) (request : Request) (answer : Answer) (n : Machine) → SaysDone request answer
    → Tells m seat (steps.Ask request) (telling answer n)
tells_done m seat request answer n says = elim says.own [
  | inl common ↦ commonly common (done m n answer says.done)
  | inr own ↦ reserving own.0 own.1 (ap steps.Ask own.2) (ap (λ a. Some a) own.3)
]

-- every kind of command
tells_kind : (request : Request) (m : Machine) (seat : ℕ) (s : SeatRecord) {e : Effect} → Kind m s request e → s.number ≡ seat
    → Tells m seat (steps.Ask request) e
tells_kind request m seat s (passes none) at = commonly refl (unanswered m m)
tells_kind request m seat s (tells answer one common unclosed) at = commonly common (unchanged m answer)
tells_kind request m seat s (waits until one waiting) at = commonly refl (unanswered m _)
tells_kind request m seat s (adds pri delay ttr body one accepts free) at = grind (arith, common_steps, inserting, or_right)
tells_kind request m seat s (deletes id j asks found free) at =
    deleting id j (ap steps.Ask asks) found (subst (λ n. (is_reserved j.state ≡ false) ⊎ (is_held_by n j ≡ true)) at
    (grind (arith, common_steps))) refl refl
tells_kind request m seat s (changes_jobs answer f burials says changes) at = tells_done m seat request answer _ says
tells_kind request m seat s (changes_seat answer f says changes) at = tells_done m seat request answer _ says
tells_kind request m seat s (changes_tube tube seconds one) at = commonly refl (done m _ answers.Paused refl)

-- every event
pub tells_acted : (memory : Memory) (m : Machine) (seat : ℕ) (what : Step) → Tells m seat what (acted memory m seat what)
tells_acted memory m seat what = each_acted m seat (λ what e. Tells m seat what e) (record {
  nothing = λ what. commonly refl (unanswered m m);
  connects = λ s is. commonly refl (unanswered m _);
  asks = λ request s is c w. tells_kind request m seat s (kind_of request m s) is.number;
  ends = λ s is. commonly refl (unanswered m _);
  closes = λ s is. commonly refl (done m _ answers.Closed refl);
  drains = commonly refl (unanswered m _);
}) (λ what. commonly refl (unchanged m answers.OutOfMemory)) memory what

pub drains_acted : (memory : Memory) (m : Machine) (seat : ℕ) (what : Step) → m.draining ≡ true
    → (acted memory m seat what).machine.draining ≡ true
drains_acted memory m seat what d = grind (arith, common_steps, each_acted, kind_of)

-- A refused command changes nothing.
honest : {m : Machine} {seat : ℕ} {what : Step} {e : Effect} → Tells m seat what e → Honest m e
honest h answer is refused = grind (arith, common_steps)

-- No client is served after it, because all were served before it.
pub refused_is_tick : (first last : Machine) (at seat : ℕ) (what : Step) (outcome : Outcome) (given : List GivenAnswer) (answer : Answer)
    → IsLawful first → (step : IsStep first at seat what outcome given last)
    → (acted step.memory step.before seat what).answer ≡ Some answer → IsTrue (is_refusal answer)
    → ChangesNothing (parts_of step) seat what answer given last
refused_is_tick first last at seat what outcome given answer h s e r =
    let before = lawful_before first last at seat what outcome given h s in
    let same = honest (tells_acted s.memory s.before seat what) answer e r in
    let kept = forgets_nothing s.before before.tubes in
    let after : s.after ≡ s.before = s.acts ∙ ap forgetting same ∙ kept in
    let quiet = serves_nobody s.before s.handed_then s.ended_then last before.dispatched before.wait_ends kept
    (rw after at s.serves_then) in
    grind (arith, common_steps, append-nil)
