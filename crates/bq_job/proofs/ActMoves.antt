-- The command's own effect, as a move: what each request and each other event does to jobs.
use Rattle.std.proofs.lemmas.Grind.{common_steps}
use Rattle.std.proofs.{Common.{◌∙◌, ◌≡◌, ◌≤◌, Some, ℕ, ap, arith, length, refl, subst, sym, true}, lemmas.Bool.{cond_both, eq-eqb}}
use Rattle.std.proofs.lemmas.List.{length-append, length-map}
use Rattle.bq_job.specs.machine.{Effect, Machine.Machine, Memory, SeatRecord, acted, delayed_by, forgetting, given_back}
use Rattle.bq_job.specs.{beside.AreIdsWithin, laws.removed, machine.{is_ready_state, new_job}}
use Rattle.bq_job.specs.{machine.state_once_left, Types.{Request, Step}}
use Rattle.bq_job.specs.declared.step.Step.TheVariants as steps
use Rattle.bq_job.proofs.EffectKinds.{Kind, adds, changes_jobs, changes_seat, changes_tube, deletes, passes, tells, waits}
use Rattle.bq_job.proofs.BecomeLemmas.{held_not_ready}
use Rattle.bq_job.proofs.ChangeLemmas.{JobsAfter, added, becomes_itself, changed, removed_one, unchanged}
use Rattle.bq_job.proofs.{CommandKinds.kind_of, EachEvent.each_acted, ListLemmas.filter_no_longer, LookupLemmas.found_job}
use Rattle.bq_job.proofs.ReplyLemmas.{stays_acted}

-- the ids of a model's jobs
abbrev pub Ids : Machine → Type 0
Ids m = AreIdsWithin 1 m.jobs m.next_id

abbrev pub After : Step → Machine → Machine → Type 0
After what m n = JobsAfter what m.settings.max_jobs m.jobs m.next_id n.jobs n.next_id

after_itself : (what : Step) (m : Machine) → After what m m
after_itself what m = unchanged what m.settings.max_jobs m.jobs m.next_id

-- every kind of command
after_kind : (request : Request) (m : Machine) (s : SeatRecord) {e : Effect} → Kind m s request e → Ids m
    → After (steps.Ask request) m e.machine
after_kind request m s (passes none) ids = after_itself (steps.Ask request) m
after_kind request m s (tells answer one common unclosed) ids = after_itself (steps.Ask request) m
after_kind request m s (waits until one waiting) ids = after_itself (steps.Ask request) m
after_kind request m s (adds pri delay ttr body one accepts free) ids =
    added (new_job m s pri delay ttr body) refl (omega arith) refl
    (λ now. let here : is_ready_state (delayed_by 0 m.moment) ≡ true = refl in
    subst (λ n. is_ready_state (delayed_by n m.moment) ≡ true) (sym now) here) free
after_kind request m s (deletes id j asks found free) ids =
    removed_one j.id (ap (λ r. removed (steps.Ask r) j.id) asks ∙ rw (eq-eqb id j.id (sym (found_job id m.jobs j found).0)) refl) refl refl
after_kind request m s (changes_jobs answer f burials says changes) ids = changed f refl refl changes.same (changes.becomes ids)
after_kind request m s (changes_seat answer f says changes) ids = after_itself (steps.Ask request) m
after_kind request m s (changes_tube tube seconds one) ids = after_itself (steps.Ask request) m

-- whether or not memory was lacking
pub after_acted : (memory : Memory) (m : Machine) (seat : ℕ) (what : Step) → Ids m → After what m (acted memory m seat what).machine
after_acted memory m seat what ids = each_acted m seat (λ what e. After what m e.machine) (record {
  nothing = λ what. after_itself what m;
  connects = λ s is. after_itself steps.Connect m;
  asks = λ request s is c w. after_kind request m s (kind_of request m s) ids;
  ends = λ s is. after_itself steps.End m;
  closes = λ s is. changed (given_back (state_once_left m) s.number) refl refl (λ j. grind (arith, common_steps, cond_both))
      (λ j i. grind (arith, common_steps, cond_both, becomes_itself, held_not_ready));
  drains = after_itself steps.Drain m;
}) (λ what. after_itself what m) memory what

-- The settings stay, and a limit of jobs is not passed.
pub record StaysWithin (m n : Machine) : Type 0 where
  pub settings : n.settings ≡ m.settings
  pub few : (most : ℕ) → m.settings.max_jobs ≡ Some most → length m.jobs ≤ most → length n.jobs ≤ most

pub within_acted : (memory : Memory) (m : Machine) (seat : ℕ) (what : Step) → Ids m
    → StaysWithin m (forgetting (acted memory m seat what).machine)
within_acted memory m seat what ids =
    let same = (stays_acted 0 memory m seat what).settings in
    let after = after_acted memory m seat what ids in
    grind (arith, common_steps, length-map, filter_no_longer, length-append)
