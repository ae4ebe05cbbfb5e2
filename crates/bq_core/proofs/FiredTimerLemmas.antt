-- Timers of jobs fire one after another, and jobs are released one after another.
use Rattle.std.proofs.Common.{Bool, List, None, Option, Some, [], ap, arith, false, if◌then◌else◌, inl, inr, is_some, map, refl, suc}
use Rattle.std.proofs.{Common.{sym, true, ℕ, ◌&&◌, ◌+◌, ◌<◌, ◌==◌, ◌∙◌, ◌∷◌, ◌≡◌, ◌≤◌}, lemmas.Bool.Decides.nat_tests}
use Rattle.std.proofs.lemmas.Bool.{cases_Bool, eqb-true}
use Rattle.std.{proofs.lemmas.Grind.common_steps, specs.{List.{AllByRecursion as All, list_any}, Prelude.{count_by, nat_le, option_map}}}
use Rattle.bq_core.proofs.{KickLemmas.{no_id, one_of_id}, TurnLemmas.none_stronger}
use Rattle.bq_core.specs.FiredTimers.{HaveFired, IsDue, IsOne, after_giving_back, after_job_timers, fired, has_due_timer, id_if_past}
use Rattle.bq_core.specs.declared.timers.Due.{Due, TheVariants.{DelayEnded, Expired}}
use Rattle.bq_job.proofs.ChoiceLemmas.{first_of_contains, first_of_is_least, first_of_none, first_of_none_passes, first_of_passes}
use Rattle.bq_job.proofs.{ChoiceLemmas.pair_order, ListLemmas.{all_always, all_both, all_from_members, all_weaker, count_all_not}}
use Rattle.bq_job.{proofs.ListLemmas.{list_any_not, list_any_with, map_all_same, none_pass}, specs.beside.AreIdsWithin}
use Rattle.bq_job.specs.{declared.job.{Job.Job, JobState.JobState}, machine.{Machine.Machine, due_of, ends_waiting, first_of, given_back}}
use Rattle.bq_job.specs.machine.{greatest, in_state, is_delayed, is_due, is_due_before, is_ending_lease, is_expired, is_held_by, is_holder}
use Rattle.bq_job.specs.machine.{is_pair_before, is_reserved, is_wait_before, is_waiting, job_after_timers, job_with, next_end, with_job}
use Rattle.bq_jobs.{proofs.Changes.{found_by_id, none_changed, others_above}, specs.{JobsSeen.ranked, Leases.deadline_of}}
use Rattle.bq_state.specs.{Store.StoreSeen, TubeEntries.counted, TubesSeen.records}
use Rattle.bq_jobs.specs.Leases.{is_lease_before}
use Rattle.bq_state.specs.{CoreParts.{Fields, OnlyCompares, count_jobs, machine_of, machine_of_fields}, EndingWaits.has_waited}
use Rattle.bq_state.specs.{EndingWaits.{is_lease_short, is_soon}, declared.core_parts.CoreParts.CoreParts}

-- changing one job and then all is changing all, if the second change subsumes the first
absorbed : (f g : Job → Job) (id : ℕ) (jobs : List Job) → All (λ k. (k.id == id) ≡ true → f (g k) ≡ f k) jobs
    → map f (map (λ k. if k.id == id then g k else k) jobs) ≡ map f jobs
absorbed f g id [] all = refl
absorbed f g id (k ∷ jobs) all = grind (arith, common_steps, absorbed f g id jobs all.1)

-- one job fewer passes after the one with this id has changed
pub one_fewer : (p : Job → Bool) (g : Job → Job) (id low next : ℕ) (jobs : List Job) (j : Job) → AreIdsWithin low jobs next
    → job_with id jobs ≡ Some j → p j ≡ true → p (g j) ≡ false
    → count_by p (map (λ k. if k.id == id then g k else k) jobs) + 1 ≡ count_by p jobs
one_fewer p g id low next [] j ids found was is = absurd cc
one_fewer p g id low next (k ∷ jobs) j ids found was is =
    grind (arith, common_steps, cases_Bool, eqb-true, none_changed, others_above, one_fewer p g id (suc k.id) next jobs j)

as_many : (p : Job → Bool) (g : Job → Job) (id : ℕ) (jobs : List Job) → All (λ k. (k.id == id) ≡ true → p (g k) ≡ p k) jobs
    → count_by p (map (λ k. if k.id == id then g k else k) jobs) ≡ count_by p jobs
as_many p g id [] all = refl
as_many p g id (k ∷ jobs) all = grind (arith, common_steps, as_many p g id jobs all.1)

fired_once : (moment : ℕ) (j : Job) → job_after_timers moment (job_after_timers moment j) ≡ job_after_timers moment j
fired_once moment j = grind (arith, common_steps)

-- If one timer that is due fires, the others are left to fire.
module _ (m : Machine) (ids : AreIdsWithin 1 m.jobs m.next_id) where
  others_left : (due : Due) → IsDue m due → after_job_timers (fired due m) ≡ after_job_timers m
  others_left (DelayEnded id) one =
      let f = job_after_timers m.moment in
      let jobs = absorbed f f id m.jobs (all_always _ m.jobs (λ k e. fired_once m.moment k)) in
      grind (arith, as_many, all_weaker, one_of_id id 1 m.next_id m.jobs one.job ids one.found)
  others_left (Expired id) one = grind (arith, common_steps, absorbed, all_always, fired_once, one_fewer)

  one_due_fewer : (due : Due) → IsDue m due
      → count_by (has_due_timer m.moment) (fired due m).jobs < count_by (has_due_timer m.moment) m.jobs
  one_due_fewer due one = grind (arith, one_fewer)

module _ (old mid new : CoreParts) (due : Due) (is : IsDue (machine_of old) due) (same : OnlyCompares old mid)
    (after : machine_of new ≡ fired due (machine_of mid)) where
  fires : machine_of new ≡ fired due (machine_of old)
  fires = after ∙ ap (λ (h : Fields). fired due (machine_of_fields h)) same

  pub fired_one : after_job_timers (machine_of new) ≡ after_job_timers (machine_of old)
  fired_one = ap after_job_timers fires ∙ others_left (machine_of old) old.sound.ids due is

  pub fewer_due : count_jobs (has_due_timer old.moment) new < count_jobs (has_due_timer old.moment) old
  fewer_due = rw (ap (λ (x : Machine). x.jobs) fires) (one_due_fewer (machine_of old) old.sound.ids due is)

-- the first job by a number, and what is known of it
pub record Chosen (p : Job → Bool) (before : Job → Job → Bool) (jobs : List Job) (id : ℕ) : Type 0 where
  pub job : Job
  pub first : first_of p before jobs ≡ Some job
  pub id_is : id ≡ job.id
  pub found : job_with id jobs ≡ Some job
  pub passes_is : p job ≡ true

pub chosen : (p : Job → Bool) (before : Job → Job → Bool) (low next : ℕ) (jobs : List Job) (id : ℕ) → AreIdsWithin low jobs next
    → Some id ≡ option_map (λ j. j.id) (first_of p before jobs) → Chosen p before jobs id
chosen p before low next jobs id ids e =
    let j : (j : Job) × (first_of p before jobs ≡ Some j) × (id ≡ j.id) = grind (arith, common_steps) in
    let found = found_by_id low next jobs j.0 ids (first_of_contains p before jobs j.0 j.1) in
    let passes = first_of_passes p before jobs j.0 j.1 in
    grind arith

-- the id of a job that was found with its number
pub id_ranked : (number : Job → ℕ) (o : Option Job) (n id : ℕ) → Some (n, id) ≡ option_map (ranked number) o
    → Some id ≡ option_map (λ j. j.id) o
id_ranked number o n id e = grind (arith)

-- The first job of a kind by a number decides whether any has a number up to t.
module _ (p : Job → Bool) (number : Job → ℕ) (q : ℕ → Job → Bool) (q_is : (t : ℕ) (j : Job) → q t j ≡ (p j && nat_le (number j) t))
    (jobs : List Job) (t : ℕ) where
  abbrev pub by_number : Job → Job → Bool
  by_number a b = is_pair_before (number a) a.id (number b) b.id

  pub none_such : list_any p jobs ≡ false → list_any (q t) jobs ≡ false
  none_such none = none_stronger p (q t) jobs (λ j fail. q_is t j ∙ rw fail refl) none

  past_is : list_any (q t) jobs ≡ is_some (id_if_past t (option_map (ranked number) (first_of p by_number jobs)))
  past_is = go (first_of p by_number jobs) refl
    where
      go : (o : Option Job) → first_of p by_number jobs ≡ o → list_any (q t) jobs ≡ is_some (id_if_past t (option_map (ranked number) o))
      go None e = none_such (first_of_none p by_number jobs e)
      go (Some j) e = elim (cases_Bool (nat_le (number j) t)) [
        | inl past ↦ list_any_with (q t) jobs j (first_of_contains p by_number jobs j e)
            (q_is t j ∙ rw (first_of_passes p by_number jobs j e, past) refl) ∙ rw past refl
        | inr later ↦ list_any_not (q t) jobs (all_from_members _ jobs (λ k here.
            let least = first_of_is_least p (pair_order number (λ k. k.id)) jobs j k e here in
            q_is t k ∙ (grind (arith, common_steps, cases_Bool, nat_tests)))) ∙ rw later refl
      ]

  pub none_past : (found : Option (ℕ × ℕ)) → found ≡ option_map (ranked number) (first_of p by_number jobs) → None ≡ id_if_past t found
      → list_any (q t) jobs ≡ false
  none_past found is none = past_is ∙ ap (λ o. is_some (id_if_past t o)) (sym is) ∙ sym (ap is_some none)

  pub first_past : (low next id : ℕ) → AreIdsWithin low jobs next → (found : Option (ℕ × ℕ))
      → found ≡ option_map (ranked number) (first_of p by_number jobs) → Some id ≡ id_if_past t found → IsOne (q t) jobs id
  first_past low next id ids found is past =
      let c = chosen p by_number low next jobs id ids (grind (arith, common_steps)) in
      grind (arith, common_steps, nat_tests)

pub dues_are : (t : ℕ) (j : Job) → is_due t j.state ≡ (is_delayed j.state && nat_le (due_of j.state) t)
dues_are t j = grind (arith, common_steps)

pub expiries_are : (t : ℕ) (j : Job) → is_expired t j.state ≡ (is_reserved j.state && nat_le (deadline_of j.state) t)
expiries_are t j = grind (arith, common_steps)

-- If no timer is due, all have fired.
none_fires : (m : Machine) → m.timeouts ≤ greatest → list_any (λ j. is_due m.moment j.state) m.jobs ≡ false
    → list_any (λ j. is_expired m.moment j.state) m.jobs ≡ false → m ≡ after_job_timers m
none_fires m fits due expired =
    let over = none_pass _ _ expired in
    let jobs = map_all_same (job_after_timers m.moment) m.jobs
    (all_weaker _ _ _ (λ j none. rw (none.0, none.1) refl) (all_both _ _ _ (none_pass _ _ due) over)) in
    grind (arith, count_all_not)

-- the first delayed job
pub delay_due : (st : CoreParts) (delayed : Option (ℕ × ℕ)) (id : ℕ) → delayed ≡ option_map (ranked (λ j. due_of j.state))
    (first_of (λ j. is_delayed j.state) is_due_before st.store.jobs.jobs) → Some id ≡ id_if_past st.moment delayed
    → IsDue (machine_of st) (DelayEnded id)
delay_due st delayed id is past = first_past _ _ _ dues_are st.store.jobs.jobs st.moment 1 st.next_id id st.sound.ids delayed is past

-- and the first reserved one
module _ (st mid : CoreParts) (same : OnlyCompares st mid) (delayed lease : Option (ℕ × ℕ))
    (delayed_is : delayed ≡ option_map (ranked (λ j. due_of j.state)) (first_of (λ j. is_delayed j.state) is_due_before st.store.jobs.jobs))
    (lease_is : lease ≡ option_map (ranked (λ j. deadline_of j.state))
    (first_of (λ j. is_reserved j.state) is_lease_before mid.store.jobs.jobs)) where
  first_of_leases : lease ≡ option_map (ranked (λ j. deadline_of j.state))
      (first_of (λ j. is_reserved j.state) is_lease_before st.store.jobs.jobs)
  first_of_leases = grind arith

  pub lease_due : (id : ℕ) → Some id ≡ id_if_past st.moment lease → IsDue (machine_of st) (Expired id)
  lease_due id past = first_past _ _ _ expiries_are st.store.jobs.jobs st.moment 1 st.next_id id st.sound.ids lease first_of_leases past

  pub none_due : (new : CoreParts) → OnlyCompares mid new → st.timeouts ≤ greatest → None ≡ id_if_past st.moment delayed
      → None ≡ id_if_past st.moment lease → HaveFired st new
  none_due new then_same fits no_delay no_lease = ap machine_of_fields then_same ∙ ap machine_of_fields same
      ∙ none_fires (machine_of st) fits
      (none_past _ _ _ dues_are st.store.jobs.jobs st.moment delayed delayed_is no_delay)
      (none_past _ _ _ expiries_are st.store.jobs.jobs st.moment lease first_of_leases no_lease)

pub none_delayed : (has : Bool) (jobs : List Job) → has ≡ list_any (λ j. is_delayed j.state) jobs → has ≡ false
    → None ≡ option_map (ranked (λ j. due_of j.state)) (first_of (λ j. is_delayed j.state) is_due_before jobs)
none_delayed has jobs is none = sym (ap (option_map _) (first_of_none_passes _ is_due_before jobs (sym is ∙ none)))

pub none_leased : (has : Bool) (jobs : List Job) → has ≡ list_any (λ j. is_reserved j.state) jobs → has ≡ false
    → None ≡ option_map (ranked (λ j. deadline_of j.state)) (first_of (λ j. is_reserved j.state) is_lease_before jobs)
none_leased has jobs is none = sym (ap (option_map _) (first_of_none_passes _ is_lease_before jobs (sym is ∙ none)))

ending_is : (moment seat : ℕ) (s : JobState) → is_ending_lease moment seat s ≡ (is_holder seat s && nat_le (deadline_of s) (moment + 1000))
ending_is moment seat s = grind (arith, common_steps)

-- The first of some leases decides whether any of these ends within a second.
soon_is : (moment : ℕ) (found : Option (ℕ × ℕ)) → is_soon moment found ≡ is_some (id_if_past (moment + 1000) found)
soon_is moment found = grind (arith, common_steps, nat_tests)

pub seat_warned : (seat moment : ℕ) (jobs : List Job) (found : Option (ℕ × ℕ)) (soon : Bool) → soon ≡ is_soon moment found
    → found ≡ option_map (ranked (λ j. deadline_of j.state)) (first_of (is_held_by seat) is_lease_before jobs)
    → soon ≡ list_any (λ j. is_ending_lease moment seat j.state) jobs
seat_warned seat moment jobs found soon told is = told ∙ soon_is moment found ∙ ap (λ o. is_some (id_if_past (moment + 1000) o)) is
    ∙ sym ((λ i. list_any (λ j. ending_is moment seat j.state i) jobs)
    ∙ past_is (is_held_by seat) (λ j. deadline_of j.state) _ (λ t j. refl) jobs (moment + 1000))

pub some_warned : (moment : ℕ) (jobs : List Job) (found : Option (ℕ × ℕ)) (soon : Bool) → soon ≡ is_soon moment found
    → found ≡ option_map (ranked (λ j. deadline_of j.state)) (first_of (λ j. is_reserved j.state) is_lease_before jobs)
    → soon ≡ list_any (is_lease_short moment) jobs
some_warned moment jobs found soon told is = told ∙ soon_is moment found ∙ ap (λ o. is_some (id_if_past (moment + 1000) o)) is
    ∙ sym (past_is (λ j. is_reserved j.state) (λ j. deadline_of j.state) _ (λ t j. refl) jobs (moment + 1000))

-- one job that the client at the seat holds is brought into a state, or there is none
pub given_none : (state : JobState) (seat : ℕ) (jobs : List Job)
    → None ≡ option_map (λ j. j.id) (first_of (is_held_by seat) is_lease_before jobs) → map (given_back state seat) jobs ≡ jobs
given_none state seat jobs e = map_all_same _ _ (all_weaker _ _ _ (λ k h. rw h refl)
    (none_pass _ _ (first_of_none (is_held_by seat) is_lease_before jobs (no_id _ e))))

module _ (state : JobState) (seat : ℕ) (old new : CoreParts) (kept : StoreSeen) (id : ℕ) (free : is_reserved state ≡ false)
    (first : Some id ≡ option_map (λ j. j.id) (first_of (is_held_by seat) is_lease_before old.store.jobs.jobs))
    (same : kept ≡ record old.store { jobs = record old.store.jobs { comparisons = kept.jobs.comparisons } })
    (after : machine_of new ≡ with_job id (in_state state) (record (machine_of old) {
      jobs = kept.jobs.jobs;
      tubes = counted (records kept.tubes);
    })) where
  gives : machine_of new ≡ with_job id (in_state state) (machine_of old)
  gives = grind arith

  one : Chosen (is_held_by seat) is_lease_before old.store.jobs.jobs id
  one = chosen _ _ _ _ _ _ old.sound.ids first

  gone : is_holder seat state ≡ false
  gone = grind (arith, common_steps)

  pub given_one : after_giving_back state seat (machine_of new) ≡ after_giving_back state seat (machine_of old)
  given_one = grind (arith, absorbed, all_weaker, gone, one_of_id id 1 old.next_id old.store.jobs.jobs one.job old.sound.ids one.found)

  pub given_fewer : count_jobs (is_held_by seat) new < count_jobs (is_held_by seat) old
  given_fewer = grind (arith, common_steps, one_fewer, gives, one.passes_is, gone, one.found, old.sound.ids)

-- no client waits: no wait ends
pub nobody_ends : (m : Machine) → list_any is_waiting m.seats ≡ false → next_end m ≡ None
nobody_ends m h = grind (arith, none_stronger, first_of_none_passes (ends_waiting m) is_wait_before m.seats)

-- no wait has timed out, and no time to run ends soon
pub none_ends : (m : Machine) → list_any (has_waited m.moment) m.seats ≡ false
    → list_any (is_lease_short m.moment) m.jobs ≡ false → next_end m ≡ None
none_ends m waited short = grind (arith, none_stronger, first_of_none_passes (ends_waiting m) is_wait_before m.seats)
