-- The report about a changed job concerns the job that was there.
use Rattle.std.proofs.lemmas.Grind.{common_steps}
use Rattle.bq_jobs.proofs.ById.{same_jobs}
use Rattle.std.proofs.Common.{◌≡◌, ℕ, ◌^◌, List, [], ◌∷◌, Option, Some, None, arith, refl, sym, ap, ◌∙◌, subst}
use Rattle.std.specs.Prelude.{Bool, Result, Ok, Err, option_map}
use Rattle.std.specs.Map.{lookup, set_value}
use Rattle.std.proofs.lemmas.Bool.{cases_Bool}
use Rattle.bq_index.specs.Edited.{MayReturn, edited_by}
use Rattle.bq_index.specs.Shelf.{ComparesFew}
use Rattle.bq_job.specs.beside.Lawful.{AreIdsWithin}
use Rattle.bq_job.specs.declared.job.Job.{Job}
use Rattle.bq_job.specs.machine.Changes.{job_with}
use Rattle.bq_jobs.specs.contracts.places.GroupOrd.TheImpl.Laws as group_laws
use Rattle.bq_jobs.specs.contracts.places.TimerOrd.TheImpl.Laws as timer_laws
use Rattle.bq_jobs.specs.declared.numbered_jobs.NumberedMove.{NumberedMove}
use Rattle.bq_jobs.specs.declared.places.Holder.{Holder}
use Rattle.bq_jobs.specs.declared.places.Timer.{Timer}
use Rattle.bq_jobs.specs.Changed.{IgnoresTube, KeepsId, entry_at, numbered_move, with_changed, with_edited}
use Rattle.bq_jobs.specs.Inside.{ById, IsShelved, Order, jobs_of, seen_in}
use Rattle.bq_jobs.specs.JobsSeen.{JobsSeen}
use Rattle.bq_jobs.specs.Moves.{CanMove, CanMoveIf, Moves, MovesIf, group_at, timer_at}
use Rattle.bq_jobs.specs.Places.{in_timers_at, timer_place, group_place}
use Rattle.bq_jobs.specs.Seen.{IsBodyOf}
use Rattle.bq_jobs.specs.Sharing.{MayShare, SharesAndChanges, if_shared}
use Rattle.bq_jobs.proofs.Changes.{found_id, none_changed, none_has, stays_in}
use Rattle.bq_jobs.proofs.Firsts.{group_cmp, timer_cmp, timer_own, group_own}
use Rattle.bq_jobs.proofs.Orders.{can_move}
use Rattle.bq_jobs.proofs.Counting.{searched}
use Rattle.bq_jobs.proofs.Shelved.{compared, each_moved, entries_changed, found_in, group_search, id_search, shelved_changed, timer_search}

-- the job that the report m is about
pub record IsOf {M : Type 0} (tells : Job → M) (o : Option Job) (m : M) : Type 0 where
  pub job : Job
  pub there : o ≡ Some job
  pub is : m ≡ tells job

pub told_of : {M : Type 0} (tells : Job → M) (o : Option Job) (m : M) → option_map tells o ≡ Some m → IsOf tells o m
told_of tells o m e = grind arith

module _ (id : ℕ) (f : Job → Job) (keeps : KeepsId f) (ignores : IgnoresTube f) (by_id : ById) (groups : Order Holder)
    (timers : Order Timer)
    (h : IsShelved group_cmp timer_cmp by_id groups timers) (m : NumberedMove)
    (told : option_map (numbered_move f) (entry_at id by_id.entries) ≡ Some m) where
  of : IsOf (numbered_move f) (entry_at id by_id.entries) m
  of = told_of (numbered_move f) (entry_at id by_id.entries) m told

  pub job_then : Job
  job_then = of.job

  pub entry_then : entry_at id by_id.entries ≡ Some job_then
  unfolding job_then
  entry_then = of.there

  pub told_is : m ≡ numbered_move f job_then
  unfolding job_then
  told_is = of.is

  pub found_then : job_with id (jobs_of by_id.entries) ≡ Some job_then
  found_then = sym (found_in by_id groups timers h id) ∙ entry_then

  id_after : (f job_then).id ≡ id
  id_after = grind (arith, found_id, found_then)

  pub left_group : group_at id m.tube m.from ≡ group_place job_then
  left_group = grind (arith, told_is, found_id, found_then)

  pub entered_group : group_at id m.tube m.to ≡ group_place (f job_then)
  entered_group = grind (arith, told_is, stays_in, id_after)

  pub left_timer : timer_at id m.from ≡ timer_place job_then
  left_timer = grind (arith, told_is, found_id, found_then)

  pub entered_timer : timer_at id m.to ≡ timer_place (f job_then)
  entered_timer = ap (λ (n : NumberedMove). timer_at id n.to) told_is ∙ ap (in_timers_at (f job_then).state) (sym id_after)

  -- It can move in both orders.
  pub can_move_group : CanMove group_cmp (group_at id m.tube m.from) (group_at id m.tube m.to) groups
  can_move_group = can_move group_laws.total-law group_place group_own 0 (2 ^ 64) id job_then (f job_then)
      (jobs_of by_id.entries) by_id.spare groups h.in_groups h.ids found_then id_after _ _ left_group entered_group

  pub can_move_timer : CanMove timer_cmp (timer_at id m.from) (timer_at id m.to) timers
  can_move_timer = can_move timer_laws.total-law timer_place timer_own 0 (2 ^ 64) id job_then (f job_then)
      (jobs_of by_id.entries) by_id.spare timers h.in_timers h.ids found_then id_after _ _ left_timer entered_timer

  -- What is kept after the moves
  module _ (ids : ById) (made : ids.entries ≡ with_edited id f (entry_at id by_id.entries) by_id.entries) where
    made_then : ids.entries ≡ with_edited id f (Some job_then) by_id.entries
    made_then = made ∙ ap (λ o. with_edited id f o by_id.entries) entry_then

    -- are the jobs with this one changed,
    pub jobs_then : jobs_of ids.entries ≡ with_changed id f (jobs_of by_id.entries)
    jobs_then = grind (arith, made_then, found_then, entries_changed, same_jobs)

    -- in their places.
    pub shelved_then : (gs : Order Holder) (ts : Order Timer) → ids.spare ≡ by_id.spare
        → Moves group_cmp (group_at id m.tube m.from) (group_at id m.tube m.to) groups gs
        → Moves timer_cmp (timer_at id m.from) (timer_at id m.to) timers ts → IsShelved group_cmp timer_cmp ids gs ts
    shelved_then gs ts room left entered =
        let changed = shelved_changed by_id groups timers h id f keeps job_then found_then ids gs ts made_then in
        grind (arith, common_steps, left_group, entered_group, left_timer, entered_timer, changed)

-- if there is no report, there is no job
pub nothing_told_of : {M : Type 0} (tells : Job → M) (o : Option Job) → option_map tells o ≡ None → o ≡ None
nothing_told_of tells o e = grind arith

pub nothing_told : (id : ℕ) (f : Job → Job) (es : List (ℕ × Job)) → option_map (numbered_move f) (entry_at id es) ≡ None
    → entry_at id es ≡ None
nothing_told id f es e = nothing_told_of (numbered_move f) (entry_at id es) e

pub unchanged : (id : ℕ) (f : Job → Job) (by_id : ById) (groups : Order Holder) (timers : Order Timer)
    → IsShelved group_cmp timer_cmp by_id groups timers → entry_at id by_id.entries ≡ None → jobs_of by_id.entries
    ≡ with_changed id f (jobs_of by_id.entries)
unchanged id f by_id groups timers h none = grind (arith, none_changed, none_has, found_in)

-- what a change that may be refused returns
abbrev Told : {E : Type 0} → (Job → Job) → Option Job → Option (Result (NumberedMove × List ℕ) E) → Type 0
Told f o r = MayReturn (MayShare f) o r

-- If it was made, the report and the body are those of the job that was there.
shared_report : (E : Type 0) (f : Job → Job) (o : Option Job) (s : NumberedMove × List ℕ) → Told {E = E} f o (Some (Ok s))
    → option_map (numbered_move f) o ≡ Some s.0
shared_report E f o s h = grind arith

shared_body : (E : Type 0) (f : Job → Job) (o : Option Job) (s : NumberedMove × List ℕ) → Told {E = E} f o (Some (Ok s)) → IsBodyOf o s.1
shared_body E f o s h j e = grind arith

-- If it was not made, all entries are as before.
value_kept : (test : ℕ → Bool) (es : List (ℕ × Job)) (j : Job) → lookup test es ≡ Some j → set_value test es j ≡ es
value_kept test [] j h = refl
value_kept test (e ∷ es) j h = grind (arith, common_steps, cases_Bool, value_kept test es j)

entries_kept : (id : ℕ) (es : List (ℕ × Job)) → with_edited id (λ j. j) (entry_at id es) es ≡ es
entries_kept id es = grind (arith, value_kept)

module _ (id : ℕ) (by_id : ById) (groups : Order Holder) (timers : Order Timer)
    (h : IsShelved group_cmp timer_cmp by_id groups timers) (old : JobsSeen) (is : seen_in by_id groups timers ≡ old) where
  found_old : entry_at id by_id.entries ≡ job_with id old.jobs
  found_old = found_in by_id groups timers h id ∙ ap (λ (m : JobsSeen). job_with id m.jobs) is

  module _ (f : Job → Job) (keeps : KeepsId f) (ignores : IgnoresTube f) where
    -- A job that was changed can move.
    pub can_move_if : {E : Type 0} (r : Option (Result (NumberedMove × List ℕ) E)) → Told f (entry_at id by_id.entries) r
        → CanMoveIf group_cmp timer_cmp id r groups timers
    can_move_if r told = grind (arith, shared_report, can_move_group, can_move_timer)

    -- After its moves, if it was changed, this is kept.
    abbrev IsKept : {E : Type 0} → Option (Result (NumberedMove × List ℕ) E) → ById → Order Holder → Order Timer → Type 0
    IsKept r ids gs ts = IsShelved group_cmp timer_cmp ids gs ts
        × SharesAndChanges (λ m. Some m ≡ option_map (numbered_move f) (job_with id old.jobs)) id f r old (seen_in ids gs ts)

    pub shared_then : {E : Type 0} (r : Option (Result (NumberedMove × List ℕ) E)) (ids : ById) (gs : Order Holder) (ts : Order Timer)
        → Told f (entry_at id by_id.entries) r
        → ids.entries ≡ with_edited id (edited_by (if_shared f) r) (entry_at id by_id.entries) by_id.entries
        → ids.spare ≡ by_id.spare → ComparesFew by_id ids → MovesIf group_cmp timer_cmp id r groups gs timers ts → IsKept r ids gs ts
    shared_then {E = E} None ids gs ts told made spare few moves = grind (arith, found_old, entries_kept, searched, compared, id_search)
    shared_then {E = E} (Some (Err e)) ids gs ts told made spare few moves =
        grind (arith, found_old, entries_kept, searched, compared, id_search)
    shared_then {E = E} (Some (Ok t)) ids gs ts told made spare few moves =
        let report = shared_report E f (entry_at id by_id.entries) t told in (
          shelved_then id f keeps ignores by_id groups timers h t.0 report ids made gs ts spare moves.0 moves.1,
          (
            sym report ∙ ap (option_map (numbered_move f)) found_old,
            record {
              body_is = subst (λ o. IsBodyOf o t.1) found_old (shared_body E f (entry_at id by_id.entries) t told);
              jobs = jobs_then id f keeps ignores by_id groups timers h t.0 report ids made
                  ∙ ap (λ (k : JobsSeen). with_changed id f k.jobs) is;
              ordered = subst (λ (k : JobsSeen). AreIdsWithin 0 k.jobs (2 ^ 64)) is h.ids;
              tubes = ap (λ (k : JobsSeen). k.tubes) is;
              room = spare ∙ ap (λ (k : JobsSeen). k.room) is;
              comparisons = each_moved by_id groups timers h old is ids gs ts few moves.0.comparisons moves.1.comparisons;
            },
          ),
        )

-- what the search takes for a change
pub ruleset moves = (found_in, each_moved, can_move_group, can_move_timer, nothing_told, unchanged)
