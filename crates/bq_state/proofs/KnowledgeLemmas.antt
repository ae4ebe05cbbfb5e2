-- What is known without a search follows each change of the jobs, the seats and the tubes, and the state keeps its invariants.
use Rattle.std.proofs.Common.{Bool, List, None, Some, [], ap, arith, false, filter, fold, if◌then◌else◌, is_some, length, map, not, refl}
use Rattle.std.proofs.{Common.{set, slice_get, sym, true, ℕ, ◌&&◌, ◌++◌, ◌^◌, ◌∙◌, ◌∷◌, ◌≡◌, ◌≤◌}, lemmas.Grind.common_steps}
use Rattle.std.{proofs.lemmas.List.length-map, specs.{BTreeMap.insert_entry, Cmp.Lexicographic.slice_cmp, List.AllByRecursion as All}}
use Rattle.std.specs.{List.list_any, Option.option_map, Ordering.nat_cmp}
use Rattle.bq_job.proofs.{KeptLemmas.{ids_of_filter, ids_of_map}, ListLemmas.{all_always, all_of_map, all_weaker, count_all_not}}
use Rattle.bq_job.specs.{beside.AreIdsWithin, declared.job.Job.Job, machine.{SeatRecord, TubeRecord, empty_seat, forgetting, fresh_tube}}
use Rattle.bq_job.specs.machine.{greatest, is_ready, is_ready_state, is_seated_at, is_waiting, job_with, last_id, next_job, numbers}
use Rattle.bq_job.specs.{machine.{seat_with, tube_after_timers, watches, watching, with_tube}, reading.TubeName.is_same_name}
use Rattle.bq_index.{proofs.Removed.value_there, specs.Removed.passing}
use Rattle.bq_jobs.proofs.{Changes.found_id, Told.{IsOf, told_of}}
use Rattle.bq_jobs.specs.{Changed.{moved_by, removed_from, with_changed}, JobsSeen.{with_added, without}}
use Rattle.bq_jobs.specs.declared.numbered_jobs.{JobMove.JobMove, JobRemoval.JobRemoval}
use Rattle.bq_state.proofs.{ClientLemmas.{connected_moved, connected_watching}, CountedLemmas.counted_added}
use Rattle.bq_state.proofs.CountedLemmas.{counted_provided as counted_with, counted_taken, first_counted, first_seated, tally_added}
use Rattle.bq_state.proofs.{CountedLemmas.{seated_by_counts, tally_taken, waiters_counted}, CrowdLemmas.{records_recounted}}
use Rattle.bq_state.proofs.{CrowdLemmas.{seated_moved, seated_there}, CrowdWatching.{counted_ignoring, counted_watching, seated_ignoring}}
use Rattle.bq_state.proofs.{CrowdWatching.seated_watching, FirstTimeoutLemmas.{first_timeouts, timeouts_of_seat, timeouts_watching}}
use Rattle.bq_state.proofs.{LeavingLemmas.alive_left, MaybeGoneLemmas.{alive_added, alive_forgotten, alive_ignoring, alive_provided}}
use Rattle.bq_state.proofs.{MaybeGoneLemmas.{alive_renamed, alive_taken, alive_watching, all_kept_alive}, MovedLemmas.alive_changed}
use Rattle.bq_state.proofs.MovedLemmas.{counted_moved, entries_of_changed, known_moved, one_id, one_tube, tally_of_moved, tube_kept}
use Rattle.bq_state.proofs.{MovedLemmas.warned_moved, NamedLemmas.{change_kept, records_changed, records_counting, records_moved}}
use Rattle.bq_state.proofs.{NamedLemmas.records_with, PartsLemmas.{all_filtered, all_read, counted_provided, entries_forgotten}}
use Rattle.bq_state.proofs.PartsLemmas.{entries_of_added, entries_of_fewer, entries_of_seat, entries_of_timers, entries_of_tube}
use Rattle.bq_state.proofs.PartsLemmas.{entries_provided, few_jobs, first_entries, first_numbered, has_of_job, id_kept, name_kept_at}
use Rattle.bq_state.proofs.PartsLemmas.{numbered_after, recorded, seat_there, tube_counts, tube_name_kept, watching_fewer, watching_more}
use Rattle.bq_state.proofs.PartsLemmas.{watching_numbered}
use Rattle.bq_state.proofs.TubeLemmas.{filter_of_map, filters_swap, has_inserted, record_changed, same_entries}
use Rattle.bq_state.proofs.GoneLemmas.{forgotten_is}
use Rattle.bq_state.proofs.PauseLemmas.{no_pause_ends, none_counted, none_over}
use Rattle.bq_state.specs.{Store.StoreSeen, WantedJobs.wanted_after_tube}
use Rattle.bq_state.proofs.WaitingLemmas.{in_turn_watching, many_seats, none_in_turn, rising_left, waiters_moved, waiters_within}
use Rattle.bq_state.proofs.WantedLemmas.{known_added, known_forgotten, known_ignoring, known_nothing, known_of_change, known_of_seat}
use Rattle.bq_state.proofs.{WantedLemmas.known_watching, WarningLemmas.{warned_added, warned_by_due, warned_of_seat, warned_watching}}
use Rattle.bq_state.specs.{CoreParts.machine_of, Counting.{AreCounted, existing, forgotten, recounted_for}}
use Rattle.bq_state.specs.Crowds.{IsSeated, has_seats, is_waiter, may_wait}
use Rattle.bq_state.specs.{Crowds.{roles_of_watcher, roles_of_watching, touched}, Dues.with_warning_due, JobChanges.{changed, once_deleted}}
use Rattle.bq_state.specs.Knowledge.{IsSo}
use Rattle.bq_state.specs.Knowledge.{is_wanted_by, nothing_known, with_job, with_joined, with_left, with_moved}
use Rattle.bq_state.specs.{Knowledge.with_removal, MaybeGoneTubes.{is_nothing, with_gone}, SeatChanges.AreNumbered}
use Rattle.bq_state.specs.{SeatChanges.{has_tube_of, seat_changed_at}, Soundness.Soundness, TubeEntries.{AreEntries, counted, has_entry}}
use Rattle.bq_state.specs.TubeEntries.{is_counted, is_tube_of, provided, tube_changed, tube_changed_at}
use Rattle.bq_state.specs.TubesSeen.{EntrySeen, Named, TubesSeen}
use Rattle.bq_state.specs.TubesSeen.{entry_at, entry_changed, entry_moved, entry_recounted, entry_with, entry_without, first_tubes}
use Rattle.bq_state.specs.TubesSeen.{fresh_entry, record_of}
use Rattle.bq_state.specs.{TubesSeen.{record_at, records, tubes_with, with_ended, with_entry}, WaitingList.{AreInTurn, WaitingList}}
use Rattle.bq_state.specs.{Warnings.{has_waiting_holder, may_hold, warned_if_due}, declared.core_parts.CoreParts.CoreParts}
use Rattle.bq_state.specs.declared.{job_store.JobChange.JobChange, known.Known.Known, seats.SeatChange.SeatChange}
use Rattle.bq_state.specs.declared.tubes.entry.{AddOrRemove.TheVariants.{Add, Remove}, TubeChange.{TheVariants.CountDelete, TubeChange}}
use Rattle.bq_state.specs.declared.tubes.entry.TubeChange.TheVariants.{CountPut}
use Rattle.bq_state.specs.declared.known.maybe_gone.MaybeGone.TheVariants as gone_tubes
use Rattle.bq_state.specs.declared.known.wanted.Wanted.TheVariants as wanted_jobs

-- The invariants of a state, from the records of its tubes.
sound_from : {jobs : List Job} {seats : List SeatRecord} {tubes : TubesSeen} {waiters : WaitingList} {k : Known} {next : ℕ}
    {draining : Bool}
    {rs : List TubeRecord} → records tubes ≡ rs → AreEntries jobs seats rs → IsSo k jobs seats rs → AreCounted jobs seats tubes.entries
    → AreNumbered seats → (draining ≡ false → next ≤ last_id) → AreIdsWithin 1 jobs next → AreInTurn waiters seats → All IsSeated seats
    → Soundness jobs seats tubes waiters k next draining
sound_from {jobs = jobs} {seats = seats} {k = k} is entries so counts numbered fits ids waiting seated = grind arith

pub records_filtered : (p : List ℕ → Bool) (es : List Named) → map record_at (filter (λ e. p e.0) es)
    ≡ filter (λ t. p t.name) (map record_at es)
records_filtered p [] = refl
records_filtered p (e ∷ es) = grind (arith, records_filtered p es)

pub records_ended : (moment : ℕ) (es : List Named) → map record_at (with_ended moment es)
    ≡ map (tube_after_timers moment) (map record_at es)
records_ended moment [] = refl
records_ended moment (e ∷ es) = ap (λ rs. tube_after_timers moment (record_at e) ∷ rs) (records_ended moment es)

module _ (name : List ℕ) (es : List Named) where
  records_provided : has_entry name (map record_at es) ≡ false
      → map record_at (insert_entry (slice_cmp nat_cmp) es name fresh_entry) ≡ provided name (map record_at es)
  records_provided none = records_with name es ∙ rw none refl

  -- A new entry is found, and nothing was counted in its tube.
  pub has_new : has_entry name (map record_at (insert_entry (slice_cmp nat_cmp) es name fresh_entry)) ≡ true
  has_new = ap (has_entry name) (records_with name es) ∙ has_inserted (fresh_tube name) (map record_at es)

  pub counted_new : has_entry name (map record_at es) ≡ false
      → counted (map record_at (insert_entry (slice_cmp nat_cmp) es name fresh_entry)) ≡ counted (map record_at es)
  counted_new none = ap counted (records_provided none) ∙ counted_provided name (map record_at es)

module _ (st : CoreParts) where
  -- The same if no seat changes.
  sound_with : {tubes : TubesSeen} {k : Known} {rs : List TubeRecord} → records tubes ≡ rs → {jobs : List Job}
      → AreEntries jobs st.seats.items rs → IsSo k jobs st.seats.items rs → AreCounted jobs st.seats.items tubes.entries
      → AreIdsWithin 1 jobs st.next_id → Soundness jobs st.seats.items tubes st.waiting k st.next_id st.draining
  sound_with is entries so counts ids = grind arith

  -- The entry of a tube changes,
  so_with_tube : (name : List ℕ) (what : TubeChange) → has_entry name (records st.store.tubes) ≡ true
      → IsSo (record st.known { wanted = wanted_after_tube name what st.known.wanted }) st.store.jobs.jobs st.seats.items
      (map (tube_changed_at name what) (records st.store.tubes))
  so_with_tube name what there =
      let changed = sym (record_changed name (tube_changed what) (tube_counts what) (tube_name_kept what) (records st.store.tubes)
      st.sound.entries.order st.sound.entries.fresh there) in
      search (alive_renamed, name_kept_at, changed, known_of_change name what (machine_of st))

  pub sound_with_tube : (name : List ℕ) (what : TubeChange) → has_entry name (records st.store.tubes) ≡ true
      → Soundness st.store.jobs.jobs st.seats.items (with_entry name (entry_changed what) st.store.tubes) st.waiting
      (record st.known { wanted = wanted_after_tube name what st.known.wanted }) st.next_id st.draining
  sound_with_tube name what there =
      sound_with (records_changed name (entry_changed what) (tube_changed what) (change_kept what) st.store.tubes.entries)
      (entries_of_tube name what _ _ _ st.sound.entries) (so_with_tube name what there)
      (all_of_map _ _ _ (all_weaker _ _ _ (λ e c. grind (arith, common_steps)) st.sound.counts)) st.sound.ids

  -- and so does its record.
  pub tube_then : (name : List ℕ) (f : EntrySeen → EntrySeen) (what : TubeChange)
      → ((n : List ℕ) (t : EntrySeen) → record_of n (f t) ≡ tube_changed what (record_of n t))
      → has_entry name (records st.store.tubes) ≡ true
      → counted (records (with_entry name f st.store.tubes)) ≡ (with_tube name (tube_changed what) (machine_of st)).tubes
  tube_then name f what made there =
      ap counted (records_changed name f (tube_changed what) made st.store.tubes.entries) ∙ sym (recorded st name what there)

  -- A job is added,
  pub sound_with_job : (j : Job) → length (with_added j st.store.jobs.jobs) ≤ greatest
      → AreIdsWithin 1 (with_added j st.store.jobs.jobs) st.next_id
      → has_entry j.tube (records st.store.tubes) ≡ true
      → Soundness (with_added j st.store.jobs.jobs) st.seats.items (with_entry j.tube (entry_with j) st.store.tubes) st.waiting
      (with_job j (is_ready j && list_any (is_waiter j.tube) st.seats.items) (has_waiting_holder j.state st.seats.items) st.known)
      st.next_id st.draining
  sound_with_job j fits ids there =
      let mid = so_with_tube j.tube CountPut there in
      let still = same_entries (tube_changed_at j.tube CountPut) (name_kept_at j.tube CountPut) j.tube (records st.store.tubes) ∙ there in
      sound_with (records_changed j.tube (entry_with j) (tube_changed CountPut) (change_kept CountPut) st.store.tubes.entries)
      (entries_of_added j _ _ _ still (entries_of_tube j.tube CountPut _ _ _ st.sound.entries))
      (search (tally_added, alive_added, known_added, warned_added))
      (counted_added j st.store.jobs.jobs fits st.seats.items st.store.tubes.entries st.sound.counts) ids

  -- removed,
  module _ (id : ℕ) (p : Job → Bool) (r : JobRemoval)
      (removed : Some r ≡ option_map removed_from (passing p (job_with id st.store.jobs.jobs))) where
    of : IsOf removed_from (passing p (job_with id st.store.jobs.jobs)) r
    of = told_of removed_from (passing p (job_with id st.store.jobs.jobs)) r (sym removed)

    is_there : job_with id st.store.jobs.jobs ≡ Some of.job
    is_there = sym (value_there p (job_with id st.store.jobs.jobs) of.job (sym of.there))

    pub sound_without_job : (seats : Bool) → Some seats ≡ option_map (λ t. has_seats t.crowd) (entry_at r.tube st.store.tubes)
        → Soundness (without id st.store.jobs.jobs) st.seats.items (with_entry r.tube (entry_without r) st.store.tubes) st.waiting
        (with_removal r seats st.known) st.next_id st.draining
    sound_without_job seats told =
        let j = of.job in
        let seated = seated_by_counts j.tube st.store.tubes _ _ st.sound.counts st.sound.entries.of_seats st.sound.seated in
        let mid = so_with_tube j.tube CountDelete (has_of_job st id j is_there) in
        let ids = st.sound.ids in
        let found = is_there in
        let there : seats ≡ true → list_any (is_seated_at j.tube) st.seats.items ≡ true = λ has. grind (arith, common_steps, of.is) in
        let so : IsSo (with_removal (removed_from j) seats st.known) (without id st.store.jobs.jobs) st.seats.items
        (map (tube_changed_at j.tube CountDelete) (records st.store.tubes)) = search (tally_taken, alive_taken, all_filtered) in
        let f = entry_without (removed_from j) in
        rw of.is (sound_with (records_changed j.tube f (tube_changed CountDelete) (change_kept CountDelete) st.store.tubes.entries)
        (entries_of_fewer _ _ _ _ (entries_of_tube j.tube CountDelete _ _ _ st.sound.entries))
        so
        (counted_taken j st.store.jobs.jobs 1 st.next_id id st.sound.ids is_there st.seats.items st.store.tubes.entries st.sound.counts)
        (ids_of_filter _ 1 st.next_id _ st.sound.ids))

    pub deleted_is : record (machine_of st) {
      jobs = without id st.store.jobs.jobs;
      tubes = counted (records (with_entry r.tube (entry_without r) st.store.tubes));
    } ≡ once_deleted (passing p (job_with id st.store.jobs.jobs)) (machine_of st)
    deleted_is = grind (
      arith,
      common_steps,
      of.there,
      of.is,
      found_id id st.store.jobs.jobs of.job is_there,
      tube_then of.job.tube (entry_without r) CountDelete (change_kept CountDelete) (has_of_job st id of.job is_there),
    )

  -- or changed.
  pub sound_with_moved : (id : ℕ) (what : JobChange) (m : JobMove) → AreIdsWithin 0 st.store.jobs.jobs (2 ^ 64)
      → Some m ≡ option_map (moved_by (changed what)) (job_with id st.store.jobs.jobs)
      → Soundness (with_changed id (changed what) st.store.jobs.jobs) st.seats.items
      (with_entry m.tube (entry_moved m) st.store.tubes) st.waiting
      (with_moved m (is_wanted_by st.waiting st.store.tubes m) (has_waiting_holder m.to.state st.seats.items) st.known) st.next_id
      st.draining
  sound_with_moved id what m ordered is =
      let f = changed what in
      let ids = st.sound.ids in
      let of = told_of (moved_by f) (job_with id st.store.jobs.jobs) m (sym is) in
      let fits = few_jobs st.next_id st.store.jobs.jobs st.sound.ids ordered in
      let waits = ap (λ w. is_ready_state m.to.state && w) (waiters_counted m.tube st.store.tubes st.store.jobs.jobs st.seats.items
      st.sound.counts st.sound.entries.of_seats st.sound.seated st.waiting st.sound.waiting) in
      sound_with (records_moved m st.store.tubes) (entries_of_changed _ (one_tube id f (tube_kept what)) _ _ _ st.sound.entries)
      (search (
        tally_of_moved 1 st.next_id id f (id_kept what) (tube_kept what) of.job m of.is,
        alive_changed,
        known_moved 1 st.next_id id f (id_kept what) (tube_kept what) of.job m of.is,
        warned_moved 1 st.next_id id f (id_kept what) (tube_kept what) of.job m of.is,
        one_tube id f (tube_kept what),
      ))
      (counted_moved 1 st.next_id id f (id_kept what) (tube_kept what) of.job m of.is st.store.jobs.jobs st.sound.ids of.there fits
      st.seats.items st.store.tubes.entries st.sound.counts)
      (ids_of_map _ 1 st.next_id _ (one_id id f (id_kept what)) st.sound.ids)

  -- A seat changes, and so do its roles at its tubes,
  module _ (n : ℕ) (what : SeatChange) (few : length st.seats.items ≤ greatest)
      (waits : may_wait what (seat_with n st.seats.items) ≡ true) where
    abbrev seats_then : List SeatRecord
    seats_then = map (seat_changed_at n what) st.seats.items

    abbrev tubes_left : TubesSeen
    tubes_left = recounted_for Remove (touched what) (seat_with n st.seats.items) st.store.tubes

    pub records_then : records (recounted_for Add (touched what) (seat_with n seats_then) tubes_left) ≡ records st.store.tubes
    records_then = grind (arith, seated_there, all_read, seated_moved, seat_there, numbered_after, records_recounted)

    so_with_seat : may_hold what n st.known.warns st.store.jobs.jobs ≡ true
        → IsSo (with_joined (seat_with n seats_then) n what
        (with_left (seat_with n st.seats.items) what (touched what) tubes_left st.known))
        st.store.jobs.jobs seats_then (records st.store.tubes)
    so_with_seat holds = rw st.sound.known.connected
        (search (connected_moved, alive_left n what, known_of_seat, warned_of_seat, timeouts_of_seat))

    pub so_then : may_hold what n st.known.warns st.store.jobs.jobs ≡ true
        → IsSo (with_joined (seat_with n seats_then) n what
        (with_left (seat_with n st.seats.items) what (touched what) tubes_left st.known))
        st.store.jobs.jobs seats_then (records (recounted_for Add (touched what) (seat_with n seats_then) tubes_left))
    so_then holds = rw records_then (so_with_seat holds)

    pub entries_then : has_tube_of what (records st.store.tubes) ≡ true
        → AreEntries st.store.jobs.jobs seats_then (records (recounted_for Add (touched what) (seat_with n seats_then) tubes_left))
    entries_then there = rw records_then (entries_of_seat n what _ _ _ there st.sound.entries)

  module _ (name : List ℕ) (n : ℕ) (s : SeatRecord) (here : slice_get st.seats.items n ≡ Some s)
      (few : length st.seats.items ≤ greatest) where
    -- a client watches one more tube,
    pub sound_watching : watches name s ≡ false → has_entry name (records st.store.tubes) ≡ true
        → Soundness st.store.jobs.jobs (set st.seats.items n (watching (s.watched ++ name ∷ []) s))
        (with_entry name (entry_recounted Add (roles_of_watcher s)) st.store.tubes) st.waiting
        (record st.known { wanted = if is_waiting s then wanted_jobs.Any else st.known.wanted }) st.next_id st.draining
    sound_watching fresh there = sound_from (records_counting name Add (roles_of_watcher s) st.store.tubes)
        (watching_more st name n s here there)
        (search (connected_watching, alive_watching, known_watching, warned_watching, timeouts_watching))
        (counted_watching name n s st.store.jobs.jobs st.seats.items st.store.tubes.entries here st.sound.numbered few fresh
        st.sound.counts)
        (watching_numbered _ n s st.seats.items here st.sound.numbered) st.sound.next st.sound.ids
        (in_turn_watching _ n s st.waiting st.seats.items here st.sound.numbered st.sound.waiting)
        (seated_watching name n s _ here st.sound.seated fresh)

    -- or one fewer.
    pub sound_ignoring : Soundness st.store.jobs.jobs
        (set st.seats.items n (watching (filter (λ other. not (is_same_name name other)) s.watched) s))
        (with_entry name (entry_recounted Remove (roles_of_watching name s)) st.store.tubes) st.waiting
        (record st.known { maybe_gone = with_gone name st.known.maybe_gone }) st.next_id st.draining
    sound_ignoring = sound_from (records_counting name Remove (roles_of_watching name s) st.store.tubes) (watching_fewer st _ n s here)
        (search (connected_watching, alive_ignoring, known_ignoring, warned_watching, timeouts_watching))
        (counted_ignoring name n s st.store.jobs.jobs st.seats.items st.store.tubes.entries here st.sound.numbered few st.sound.counts)
        (watching_numbered _ n s st.seats.items here st.sound.numbered) st.sound.next st.sound.ids
        (in_turn_watching _ n s st.waiting st.seats.items here st.sound.numbered st.sound.waiting)
        (seated_ignoring name n s _ here st.sound.seated _)

  -- A tube gets an entry,
  pub sound_provided : (name : List ℕ) (ns : List (List ℕ × ℕ)) → has_entry name (records st.store.tubes) ≡ false
      → Soundness st.store.jobs.jobs st.seats.items (tubes_with name ns st.store.tubes) st.waiting
      (record st.known { maybe_gone = with_gone name st.known.maybe_gone }) st.next_id st.draining
  sound_provided name ns none = sound_with (records_provided name st.store.tubes.entries none) (entries_provided st name)
      (search (counted_provided, alive_provided))
      (counted_with name _ _ _ none st.sound.entries st.sound.seated st.sound.counts) st.sound.ids

  -- or pauses end.
  pub sound_with_pauses : (store : StoreSeen)
      → store ≡ record st.store { tubes = record st.store.tubes { entries = with_ended st.moment st.store.tubes.entries } }
      → Soundness store.jobs.jobs st.seats.items store.tubes st.waiting (record st.known { wanted = wanted_jobs.Any }) st.next_id
      st.draining
  sound_with_pauses store same =
      rw same (grind (arith, sound_with, records_ended, entries_of_timers, alive_renamed, all_always, all_of_map))

  -- Entries of tubes that no longer exist are dropped.
  module _ (store : StoreSeen) (after : store.tubes.entries ≡ forgotten st.known.maybe_gone st.store.tubes.entries)
      (same : store.jobs ≡ record st.store.jobs { tubes = store.jobs.tubes }) where
    left : store.tubes.entries ≡ existing st.store.jobs.jobs st.seats.items st.store.tubes.entries
    left = after ∙ forgotten_is st.store.jobs.jobs st.seats.items st.known.maybe_gone st.store.tubes.entries st.sound.entries.order
        st.sound.known.alive st.sound.counts

    pub sound_forgotten : Soundness store.jobs.jobs st.seats.items store.tubes st.waiting
        (record st.known { maybe_gone = gone_tubes.Nothing }) st.next_id st.draining
    sound_forgotten =
        let p = is_tube_of st.store.jobs.jobs st.seats.items in
        rw same (sound_with (ap (map record_at) left ∙ records_filtered p st.store.tubes.entries) (entries_forgotten st)
        (search (known_forgotten (machine_of st), alive_forgotten, filters_swap is_counted (λ t. p t.name)))
        (rw left (all_filtered _ _ _ st.sound.counts)) st.sound.ids)

    pub once_forgotten : record (machine_of st) { jobs = store.jobs.jobs; tubes = counted (records store.tubes) }
        ≡ forgetting (machine_of st)
    once_forgotten =
        let p = is_tube_of st.store.jobs.jobs st.seats.items in
        rw (same, left, records_filtered p st.store.tubes.entries) (ap (λ tubes. record (machine_of st) { tubes = tubes })
        (filters_swap is_counted (λ t. p t.name) (records st.store.tubes)))

  -- If no tube may have gone, none is dropped.
  pub none_forgotten : is_nothing st.known.maybe_gone ≡ true → machine_of st ≡ forgetting (machine_of st)
  none_forgotten none = grind (arith, common_steps, all_kept_alive, filters_swap)

  -- No waiting client can receive a job.
  pub so_with_nothing : next_job (machine_of st) ≡ None
      → IsSo (record st.known { wanted = wanted_jobs.Nothing }) st.store.jobs.jobs st.seats.items (records st.store.tubes)
  so_with_nothing none = search known_nothing

  -- The client whose warning is due, if any, was looked up.
  pub so_settled : (due : Bool) → due ≡ is_some (fold (with_warning_due st.store.jobs.jobs) None st.seats.items)
      → IsSo (record st.known { warns = warned_if_due due st.known.warns }) st.store.jobs.jobs st.seats.items (records st.store.tubes)
  so_settled due is = grind (arith, common_steps, warned_by_due)

-- At the start there is nothing to know.
pub sound_at_first : (n : ℕ) (ns : List (List ℕ × ℕ)) (waiters : WaitingList) → waiters.waiters ≡ [] → n ≤ waiters.room
    → Soundness [] (map empty_seat (numbers 0 n)) (first_tubes ns) waiters nothing_known 1 false
sound_at_first n ns waiters nobody room =
    let none = count_all_not (λ (s : SeatRecord). s.connected) _ (all_of_map _ empty_seat (numbers 0 n) (all_always _ _ (λ n. refl))) in
    let so : IsSo nothing_known [] (map empty_seat (numbers 0 n)) (records (first_tubes ns)) = grind
    (arith, common_steps, none, first_timeouts (numbers 0 n)) in
    search (arith, first_entries, first_numbered, first_counted, first_seated, many_seats, nobody ∙ sym (none_in_turn (numbers 0 n)))

-- facts after a change of a seat, under a name that an attribute can cite
pub ruleset kept_by_seat = (
  common_steps,
  records_then,
  numbered_after,
  rising_left,
  waiters_moved,
  waiters_within,
  length-map,
)

-- the ends of pauses, under a name that an attribute can cite
pub ruleset pauses_end = (common_steps, sound_with_pauses, none_over, no_pause_ends, none_counted, records_ended, filter_of_map)
