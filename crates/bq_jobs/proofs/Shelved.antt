-- What a look-up, an addition, a removal and a change are to the three shelves of jobs, with the
-- names of tubes or with their numbers.
use Rattle.std.proofs.lemmas.Grind.{common_steps}
use Rattle.std.proofs.lemmas.List.Sums.{count_by-le-length}
use Rattle.std.proofs.Common.{None, map, length, cond, arith, refl, sym, ap, ◌∙◌, ◌≡◌, ℕ, ◌+◌, ◌<◌, ◌≤◌, ◌^◌, ◌*◌, List, [], Some}
use Rattle.std.specs.Prelude.{is_some, IsSome, ◌==◌, Option}
use Rattle.std.specs.Option.{ForSome}
use Rattle.std.specs.Ordering.{nat_cmp}
use Rattle.std.specs.Map.{lookup, remove_entry, set_value}
use Rattle.std.specs.BTreeMap.{is_at, insert_entry}
use Rattle.bq_index.proofs.Order.{order_none}
use Rattle.bq_index.specs.Digits.{binary_digits}
use Rattle.bq_index.specs.Removed.{removed_if}
use Rattle.bq_index.specs.Shelf.{ComparesFew}
use Rattle.bq_job.specs.declared.job.Job.{Job}
use Rattle.bq_job.specs.machine.Changes.{job_with}
use Rattle.bq_job.specs.beside.Lawful.{AreIdsWithin}
use Rattle.bq_job.proofs.KeptLemmas.{ids_of_map}
use Rattle.bq_jobs.specs.contracts.places.GroupOrd.TheImpl.Laws as group_laws
use Rattle.bq_jobs.specs.contracts.places.TimerOrd.TheImpl.Laws as timer_laws
use Rattle.bq_jobs.specs.declared.places.Holder.{Holder}
use Rattle.bq_jobs.specs.declared.places.ShelfPlace.{ShelfPlace}
use Rattle.bq_jobs.specs.declared.places.Timer.{Timer}
use Rattle.bq_jobs.specs.Changed.{KeepsId, with_changed}
use Rattle.bq_jobs.specs.Inside.{ById, IsOrderOf, IsShelved, Order, jobs_of, seen_in, with_id}
use Rattle.bq_jobs.specs.JobsSeen.{ComparesAtMost, JobsSeen, search_bound, with_added, without}
use Rattle.bq_jobs.specs.Lent.{IsCounted}
use Rattle.bq_jobs.specs.PlaceOrder.{ComparesTwice, first_rank, holds_place, with_place, without_place}
use Rattle.bq_jobs.specs.Places.{timer_place, group_place}
use Rattle.bq_jobs.specs.Ranks.{first_held, first_timed}
use Rattle.bq_jobs.specs.Room.{Removes, RemovesIf}
use Rattle.bq_jobs.specs.Searching.{Searches}
use Rattle.bq_jobs.proofs.ById.{insert_by_id, lookup_by_id, remove_by_id, same_jobs, set_by_id}
use Rattle.bq_jobs.proofs.Changes.{added_within, changed, found_id, not_there, without_none, without_within}
use Rattle.bq_jobs.proofs.Counting.{few_more, search_is_bounded, searched}
use Rattle.bq_jobs.proofs.FirstJobs.{group_first, timer_first}
use Rattle.bq_jobs.proofs.Firsts.{group_cmp, timer_cmp, timer_own, group_own}
use Rattle.bq_jobs.proofs.Orders.{held_place, order_added, order_moved, order_removed}

length_jobs : (es : List (ℕ × Job)) → length (jobs_of es) ≡ length es
length_jobs es = grind (arith, common_steps)

-- the comparisons of a search for an id
pub id_search : (by_id : ById) → 2 * binary_digits (length by_id.entries + 1) ≤ search_bound (jobs_of by_id.entries)
id_search by_id = search_is_bounded (jobs_of by_id.entries) (length by_id.entries) (omega (arith, length_jobs by_id.entries))

-- how often keys were compared
abbrev pub compared : ById → Order Holder → Order Timer → ℕ
compared by_id groups timers = by_id.comparisons + groups.comparisons + timers.comparisons

-- the shelves of the jobs of a list
shelved_from : (jobs : List Job) (by_id : ById) (groups : Order Holder) (timers : Order Timer) → by_id.entries ≡ map with_id jobs
    → AreIdsWithin 0 jobs (2 ^ 64) → IsOrderOf group_cmp group_place jobs by_id.spare groups
    → IsOrderOf timer_cmp timer_place jobs by_id.spare timers → IsShelved group_cmp timer_cmp by_id groups timers
shelved_from jobs by_id groups timers own ids tubes timed = grind (arith, same_jobs, group_cmp, timer_cmp)

-- without jobs, no order has a place
pub shelved_none : IsShelved group_cmp timer_cmp (record { entries = []; spare = 0; comparisons = 0 })
    (record { entries = []; spare = 0; comparisons = 0 })
    (record { entries = []; spare = 0; comparisons = 0 })
shelved_none = grind (arith, order_none)

module _ (by_id : ById) (groups : Order Holder) (timers : Order Timer) (h : IsShelved group_cmp timer_cmp by_id groups timers) where
  abbrev jobs : List Job
  jobs = jobs_of by_id.entries

  -- the job that an id finds
  pub found_in : (id : ℕ) → lookup (is_at (nat_cmp id)) by_id.entries ≡ job_with id jobs
  found_in id = ap (lookup (is_at (nat_cmp id))) h.by_own_id ∙ lookup_by_id id jobs

  -- It has this id.
  pub found_own : (id : ℕ) (j : Job) → lookup (is_at (nat_cmp id)) by_id.entries ≡ Some j → j.id ≡ id
  found_own id j found = found_id id jobs j (sym (found_in id) ∙ found)

  -- the places of a job that is there
  pub held_in_groups : (id : ℕ) (j : Job) (place : Option (ShelfPlace Holder)) → job_with id jobs ≡ Some j
      → place ≡ group_place j → ForSome place (λ p. IsSome (holds_place group_cmp p groups.entries))
  held_in_groups id j place found is =
      λ p e. held_place group_laws.total-law group_place group_own id j _ _ groups h.in_groups found p (sym is ∙ e)

  pub held_in_timers : (id : ℕ) (j : Job) (place : Option (ShelfPlace Timer)) → job_with id jobs ≡ Some j
      → place ≡ timer_place j → ForSome place (λ p. IsSome (holds_place timer_cmp p timers.entries))
  held_in_timers id j place found is =
      λ p e. held_place timer_laws.total-law timer_place timer_own id j _ _ timers h.in_timers found p (sym is ∙ e)

  entries_added : (j : Job) → job_with j.id jobs ≡ None → insert_entry nat_cmp by_id.entries j.id j ≡ map with_id (with_added j jobs)
  entries_added j free = ap (λ es. insert_entry nat_cmp es j.id j) h.by_own_id ∙ insert_by_id j jobs free

  pub jobs_added : (j : Job) → job_with j.id jobs ≡ None → jobs_of (insert_entry nat_cmp by_id.entries j.id j) ≡ with_added j jobs
  jobs_added j free = ap jobs_of (entries_added j free) ∙ same_jobs (with_added j jobs)

  entries_removed : (id : ℕ) → remove_entry (is_at (nat_cmp id)) by_id.entries ≡ map with_id (without id jobs)
  entries_removed id = ap (remove_entry (is_at (nat_cmp id))) h.by_own_id ∙ remove_by_id 0 (2 ^ 64) id jobs h.ids

  -- the comparisons of a search in each order
  pub group_search : 2 * binary_digits (length groups.entries + 1) ≤ search_bound jobs
  group_search = grind (arith, group_cmp, search_is_bounded, count_by-le-length)

  pub timer_search : 2 * binary_digits (length timers.entries + 1) ≤ search_bound jobs
  timer_search = grind (arith, timer_cmp, search_is_bounded, count_by-le-length)

  -- after a removal that found a job, and after one that found none
  pub shelved_without : (id : ℕ) (j : Job) (removed : Option Job) (ids : ById) (gs : Order Holder) (ts : Order Timer)
      (p : Option (ShelfPlace Holder)) (q : Option (ShelfPlace Timer)) → removed ≡ Some j → job_with id jobs ≡ Some j
      → ids.entries ≡ removed_if (is_at (nat_cmp id)) removed by_id.entries → ids.spare ≡ by_id.spare + cond (is_some removed) 1 0
      → p ≡ group_place j → gs.entries ≡ without_place group_cmp p groups.entries → gs.spare ≡ groups.spare + cond (is_some p) 1 0
      → q ≡ timer_place j → ts.entries ≡ without_place timer_cmp q timers.entries → ts.spare ≡ timers.spare + cond (is_some q) 1 0
      → IsShelved group_cmp timer_cmp ids gs ts
  shelved_without id j removed ids gs ts p q found there entries room p_is g g_spare q_is t t_spare =
      grind (
        arith,
        shelved_from (without id jobs) ids gs ts,
        entries_removed id,
        without_within 0 (2 ^ 64) id jobs h.ids,
        order_removed group_laws.total-law group_place group_own 0 (2 ^ 64) id j jobs by_id.spare ids.spare groups gs h.in_groups h.ids
            there,
        order_removed timer_laws.total-law timer_place timer_own 0 (2 ^ 64) id j jobs by_id.spare ids.spare timers ts h.in_timers h.ids
            there,
      )

  pub shelved_same : (id : ℕ) (removed : Option Job) (ids : ById) → removed ≡ None → removed ≡ lookup (is_at (nat_cmp id)) by_id.entries
      → ids.entries ≡ remove_entry (is_at (nat_cmp id)) by_id.entries → ids.spare ≡ by_id.spare + cond (is_some removed) 1 0
      → IsShelved group_cmp timer_cmp ids groups timers
  shelved_same id removed ids none found entries room = grind (arith, without_none, found_in, entries_removed)

  -- after a change of a job
  module _ (id : ℕ) (f : Job → Job) (keeps : KeepsId f) (j : Job) (found : job_with id jobs ≡ Some j) where
    id_then : (f j).id ≡ id
    id_then = keeps j ∙ found_id id jobs j found

    pub entries_changed : set_value (is_at (nat_cmp id)) by_id.entries (f j) ≡ map with_id (with_changed id f jobs)
    entries_changed = grind (arith, set_by_id, id_then)

    changed_keeps : (k : Job) → (cond (k.id == id) (f k) k).id ≡ k.id
    changed_keeps k = grind (arith, keeps k)

    pub shelved_changed : (ids : ById) (gs : Order Holder) (ts : Order Timer)
        → ids.entries ≡ set_value (is_at (nat_cmp id)) by_id.entries (f j) → ids.spare ≡ by_id.spare
        → gs.entries ≡ with_place group_cmp (group_place (f j)) (without_place group_cmp (group_place j) groups.entries)
        → gs.spare + cond (is_some (group_place (f j))) 1 0 ≡ groups.spare + cond (is_some (group_place j)) 1 0
        → ts.entries ≡ with_place timer_cmp (timer_place (f j)) (without_place timer_cmp (timer_place j) timers.entries)
        → ts.spare + cond (is_some (timer_place (f j))) 1 0 ≡ timers.spare + cond (is_some (timer_place j)) 1 0
        → IsShelved group_cmp timer_cmp ids gs ts
    shelved_changed ids gs ts entries room g g_spare t t_spare =
        let made = changed 0 (2 ^ 64) id f j jobs h.ids found id_then in
        shelved_from (with_changed id f jobs) ids gs ts (entries ∙ entries_changed)
        (ids_of_map (λ k. cond (k.id == id) (f k) k) 0 (2 ^ 64) jobs changed_keeps h.ids)
        (rw (room, ← made) (order_moved group_laws.total-law group_place group_own 0 (2 ^ 64) id j (f j) jobs _ _
        h.in_groups h.ids found id_then gs g g_spare))
        (rw (room, ← made) (order_moved timer_laws.total-law timer_place timer_own 0 (2 ^ 64) id j (f j) jobs _ _
        h.in_timers h.ids found id_then ts t t_spare))

  module _ (old : JobsSeen) (is : seen_in by_id groups timers ≡ old) where
    -- the first place of a group is that of the first job,
    pub first_in_group : (g : Holder) → first_rank group_cmp g groups.entries ≡ first_held g old.jobs
    first_in_group g = group_first by_id groups timers h g ∙ ap (λ (m : JobsSeen). first_held g m.jobs) is

    pub first_in_timers : (t : Timer) → first_rank timer_cmp t timers.entries ≡ first_timed t old.jobs
    first_in_timers t = timer_first by_id groups timers h t ∙ ap (λ (m : JobsSeen). first_timed t m.jobs) is

    -- and a search for it changes nothing.
    pub groups_searched : (new : Order Holder) → ComparesFew groups new → Searches 1 old (seen_in by_id new timers)
    groups_searched new few = grind (arith, searched, group_search)

    pub timers_searched : (new : Order Timer) → ComparesFew timers new → Searches 1 old (seen_in by_id groups new)
    timers_searched new few = grind (arith, searched, timer_search)

    -- Neither does a search for an id.
    pub id_searched : (new : ById) → new.entries ≡ by_id.entries → new.spare ≡ by_id.spare → ComparesFew by_id new
        → IsCounted old (seen_in new groups timers)
    id_searched new entries spare few = grind (arith, few_more, id_search)

    -- After an addition
    pub shelved_with : (id : ℕ) (j : Job) (ids : ById) (gs : Order Holder) (ts : Order Timer) (p : Option (ShelfPlace Holder))
        (q : Option (ShelfPlace Timer)) → id ≡ j.id → id < 2 ^ 64 → job_with j.id old.jobs ≡ None
        → ids.entries ≡ insert_entry nat_cmp by_id.entries id j → ids.spare + 1 ≡ by_id.spare
        → p ≡ group_place j → gs.entries ≡ with_place group_cmp p groups.entries → gs.spare + cond (is_some p) 1 0 ≡ groups.spare
        → q ≡ timer_place j → ts.entries ≡ with_place timer_cmp q timers.entries → ts.spare + cond (is_some q) 1 0 ≡ timers.spare
        → IsShelved group_cmp timer_cmp ids gs ts
    shelved_with id j ids gs ts p q own few free entries room p_is g g_spare q_is t t_spare =
        grind (
          arith,
          shelved_from (with_added j jobs) ids gs ts,
          entries_added j,
          added_within 0 (2 ^ 64) j jobs,
          order_added group_laws.total-law group_place group_own j jobs by_id.spare ids.spare groups gs h.in_groups,
          order_added timer_laws.total-law timer_place timer_own j jobs by_id.spare ids.spare timers ts h.in_timers,
        )

    -- One search in each shelf is at most four in all.
    module _ (ids : ById) (gs : Order Holder) (ts : Order Timer) (few : ComparesFew by_id ids) (few_gs : ComparesFew groups gs)
        (few_ts : ComparesFew timers ts) where
      not_fewer : compared by_id groups timers ≤ compared ids gs ts
      not_fewer = omega (arith, few, few_gs, few_ts)

      at_most : compared ids gs ts ≤ compared by_id groups timers + 3 * search_bound jobs
      at_most = omega (arith, few, few_gs, few_ts, id_search by_id, group_search, timer_search)

      pub each_searched : ComparesAtMost 4 old (seen_in ids gs ts)
      each_searched = few_more 4 (seen_in by_id groups timers) old _ _ is refl not_fewer (omega (arith, at_most))

      pub removal : (id : ℕ) (removed result : Option Job) → removed ≡ result
          → ids.entries ≡ remove_entry (is_at (nat_cmp id)) by_id.entries → ids.spare ≡ by_id.spare + cond (is_some removed) 1 0
          → Removes id result old (seen_in ids gs ts)
      removal id removed result same entries spare = grind (arith, not_there, each_searched, entries_removed, same_jobs)

      -- if a test let the job go
      pub removal_if : (id : ℕ) (removed result : Option Job) → removed ≡ result
          → ids.entries ≡ removed_if (is_at (nat_cmp id)) removed by_id.entries → ids.spare ≡ by_id.spare + cond (is_some removed) 1 0
          → RemovesIf id result old (seen_in ids gs ts)
      removal_if id removed result same entries spare = grind (arith, each_searched, entries_removed, same_jobs)

    -- One search for an id and two in each order are at most seven in all.
    pub each_moved : (ids : ById) (gs : Order Holder) (ts : Order Timer) → ComparesFew by_id ids → ComparesTwice groups gs
        → ComparesTwice timers ts → ComparesAtMost 7 old (seen_in ids gs ts)
    each_moved ids gs ts few few_gs few_ts = grind (arith, few_more, id_search by_id, group_search, timer_search)

-- what the search takes for an addition
pub ruleset additions = (found_in, jobs_added, each_searched)
