-- The counts of tubes are those of the jobs and the seats.
use Rattle.std.proofs.Common.{Bool, List, None, Option, Some, [], arith, false, length, map, refl, rules, sym, true, ℕ, ◌&&◌, ◌∷◌, ◌≡◌, ◌≤◌}
use Rattle.std.proofs.lemmas.{Bool.{both_ways, false_from_ne_true, or_parts}, Cmp.nat_list_eq_equiv, Grind.common_steps}
use Rattle.std.specs.{BTreeMap.insert_entry, Cmp.Lexicographic.slice_cmp, List.{AllByRecursion as All, list_any}, Map.lookup}
use Rattle.std.specs.{Map.remove_entry, Ordering.nat_cmp, Prelude.{count_by, filter, if◌then◌else◌, nat_lt}}
use Rattle.bq_job.{proofs.ListLemmas.{all_always, all_of_map, all_weaker, count_cons, list_any_not, none_pass}, specs.beside.AreIdsWithin}
use Rattle.bq_job.specs.{declared.job.Job.Job, machine.{SeatRecord, TubeRecord, default_tube, empty_seat, greatest, is_seated_at, job_with}}
use Rattle.bq_job.specs.reading.TubeName.{is_same_name}
use Rattle.bq_jobs.specs.{Changed.removed_from, JobsSeen.{with_added, without}}
use Rattle.bq_state.proofs.{ClientLemmas.some_pass, CrowdLemmas.has_seats_of, NamedLemmas.ties, TallyLemmas.{both_count, one_added}}
use Rattle.bq_state.proofs.{TallyLemmas.{one_taken, tally_is, tally_stepped}, TubeLemmas.same_name, WaitingLemmas.waiters_in_turn}
use Rattle.bq_state.specs.{Counting.AreCounted, Crowds.{IsSeated, crowd_of, has_seats, is_waiter, no_crowd}, Leaving.exists_in}
use Rattle.bq_state.specs.{Offers.is_waited_at, Tallies.{count_with, count_without, has_jobs, tally_in, tally_left, tally_of, tally_with}}
use Rattle.bq_state.specs.{TubeEntries.{AreEntries, HasTubes, has_entry, is_tube_of}, TubesSeen.{EntrySeen, Named, TubesSeen}}
use Rattle.bq_state.specs.TubesSeen.{changed_named, crowd_by, entry_at, entry_with, entry_without, fresh_entry, is_named_at, record_at}
use Rattle.bq_state.specs.{TubesSeen.{records, tally_by}, WaitingList.{AreInTurn, WaitingList}, declared.known.tally.Tally.Tally}

-- The counts after a change by `step` of the count of the jobs that pass: this change is at one tube.
module _ (step : (Job → Bool) → ℕ → ℕ) (tube : List ℕ) (old new : List Job)
    (counts : (p : Job → Bool) → step p (count_by p old) ≡ count_by p new)
    (there : (name : List ℕ) (p : Job → Bool) (n : ℕ)
    → step (λ k. is_same_name name k.tube && p k) n ≡ (if is_same_name tube name then step p n else n)) where
  followed : (name : List ℕ)
      → (if is_same_name tube name then tally_stepped step (tally_in old name) else tally_in old name) ≡ tally_in new name
  followed name = tally_is (is_same_name tube name) step (filter (λ j. is_same_name name j.tube) old)
      (filter (λ j. is_same_name name j.tube) new) (λ p. rw (both_count _ p old, both_count _ p new, ← there name p _, counts) refl)

  pub counted_by : (f : EntrySeen → EntrySeen) → ((t : EntrySeen) → (f t).tally ≡ tally_stepped step t.tally)
      → ((t : EntrySeen) → (f t).crowd ≡ t.crowd) → (seats : List SeatRecord) (es : List Named)
      → AreCounted old seats es → AreCounted new seats (map (changed_named tube f) es)
  counted_by f tallies crowds seats es all = all_of_map _ _ es (all_weaker _ _ es
      (λ e c. let is = followed e.0 in grind (arith, tallies e.1, crowds e.1)) all)

module _ (j : Job) (jobs : List Job) where
  same_tube : (name : List ℕ) (p : Job → Bool) (g : Bool → ℕ → ℕ) (n : ℕ) → ((n : ℕ) → g false n ≡ n)
      → g (is_same_name name j.tube && p j) n ≡ (if is_same_name j.tube name then g (p j) n else n)
  same_tube name p g n none = grind (arith, common_steps, nat_list_eq_equiv.symm name j.tube)

  -- a job is added,
  module _ (fits : length (with_added j jobs) ≤ greatest) where
    pub tally_added : (tally : Tally) → tally ≡ tally_of jobs → tally_with j tally ≡ tally_of (with_added j jobs)
    tally_added tally is = rw is (tally_is true (λ p. count_with (p j)) jobs (with_added j jobs) (one_added j jobs fits))

    pub counted_added : (seats : List SeatRecord) (es : List Named) → AreCounted jobs seats es
        → AreCounted (with_added j jobs) seats (map (changed_named j.tube (entry_with j)) es)
    counted_added = counted_by (λ p. count_with (p j)) j.tube jobs (with_added j jobs) (one_added j jobs fits)
        (λ name p n. same_tube name p count_with n (λ n. refl)) (entry_with j) (λ t. refl) (λ t. refl)

  -- or removed
  module _ (low next id : ℕ) (ids : AreIdsWithin low jobs next) (found : job_with id jobs ≡ Some j) where
    pub tally_taken : (tally : Tally) → tally ≡ tally_of jobs → tally_left (removed_from j).at tally ≡ tally_of (without id jobs)
    tally_taken tally is = rw is (tally_is true (λ p. count_without (p j)) jobs (without id jobs) (one_taken low next id j jobs ids found))

    pub counted_taken : (seats : List SeatRecord) (es : List Named) → AreCounted jobs seats es
        → AreCounted (without id jobs) seats (map (changed_named j.tube (entry_without (removed_from j))) es)
    counted_taken = counted_by (λ p. count_without (p j)) j.tube jobs (without id jobs) (one_taken low next id j jobs ids found)
        (λ name p n. same_tube name p count_without n (λ n. refl)) (entry_without (removed_from j)) (λ t. refl) (λ t. refl)

-- no job and no client is at a tube without an entry
pub other_name : (name n : List ℕ) (es : List TubeRecord) → has_entry name es ≡ false → has_entry n es ≡ true → is_same_name name n ≡ false
other_name name n es none some = search (rules, false_from_ne_true, both_ways, same_name)

module _ (name : List ℕ) (es : List TubeRecord) (missing : has_entry name es ≡ false) where
  pub no_job_there : (jobs : List Job) → All (λ j. has_entry j.tube es ≡ true) jobs → tally_in jobs name ≡ tally_of []
  no_job_there [] all = refl
  no_job_there (j ∷ jobs) all = rw (other_name name j.tube es missing all.0) (no_job_there jobs all.1)

  nobody_there : (seats : List SeatRecord) → All (HasTubes es) seats → All IsSeated seats → crowd_of seats name ≡ no_crowd
  nobody_there [] has is = refl
  nobody_there (s ∷ seats) has is = grind (arith, count_cons, other_name, list_any_not, all_weaker, nobody_there seats has.1 is.1)

-- What is found under a name, if each entry has the value g of its name.
pub value_there : {A : Type 0} (by : Option EntrySeen → A) (g : List ℕ → A) (name : List ℕ) (es : List Named)
    → All (λ e. by (Some e.1) ≡ g e.0) es → (has_entry name (map record_at es) ≡ false → g name ≡ by None)
    → by (lookup (is_named_at name) es) ≡ g name
value_there by g name [] all missing = sym (missing refl)
value_there by g name (e ∷ es) all missing = grind (arith, ties name e.0, same_name name e.0, value_there by g name es all.1)

-- a tube has jobs by its counts if and only if it has a job
pub has_jobs_in : (name : List ℕ) (jobs : List Job) → has_jobs (tally_in jobs name) ≡ list_any (λ j. is_same_name name j.tube) jobs
has_jobs_in name [] = refl
has_jobs_in name (j ∷ jobs) = grind (arith, common_steps, has_jobs_in name jobs)

-- The counts found under a name are those of its jobs and its clients.
module _ (name : List ℕ) (k : TubesSeen) (jobs : List Job) (seats : List SeatRecord) (counts : AreCounted jobs seats k.entries) where
  module _ (of_jobs : All (λ j. has_entry j.tube (records k) ≡ true) jobs) where
    pub tally_there : tally_by (entry_at name k) ≡ tally_in jobs name
    tally_there = value_there tally_by (tally_in jobs) name k.entries (all_weaker _ _ _ (λ e c. c.0) counts)
        (λ none. no_job_there name (records k) none jobs of_jobs)

  module _ (of_seats : All (HasTubes (records k)) seats) (seated : All IsSeated seats) where
    pub crowd_there : crowd_by (entry_at name k) ≡ crowd_of seats name
    crowd_there = value_there crowd_by (crowd_of seats) name k.entries (all_weaker _ _ _ (λ e c. c.1) counts)
        (λ none. nobody_there name (records k) none seats of_seats seated)

    -- If a tube's counts show a client, there is one.
    pub seated_by_counts : has_seats (crowd_by (entry_at name k)) ≡ true → list_any (is_seated_at name) seats ≡ true
    seated_by_counts h = grind (arith, common_steps, has_seats_of, crowd_there)

    -- A client that waits for jobs of a tube is counted.
    pub waiters_counted : (waiting : WaitingList) → AreInTurn waiting seats
        → (nat_lt 0 (length waiting.waiters) && is_waited_at name k) ≡ list_any (is_waiter name) seats
    waiters_counted waiting waiters = rw (waiters_in_turn waiting.waiters waiting seats refl waiters)
        (grind (arith, crowd_there, some_pass, list_any_not, all_weaker, none_pass))

  pub tube_there : AreEntries jobs seats (records k) → All IsSeated seats → exists_in k name ≡ is_tube_of jobs seats name
  tube_there entries seated = grind (arith, common_steps, tally_there, has_jobs_in, crowd_there, has_seats_of)

-- a tube gets an entry
all_entered : (P : Named → Type 0) (name : List ℕ) (t : EntrySeen) → P (name, t) → (es : List Named) → has_entry name (map record_at es)
    ≡ false
    → All P es → All P (insert_entry (slice_cmp nat_cmp) es name t)
all_entered P name t h [] none all = (h, tt)
all_entered P name t h (e ∷ es) none all = grind (arith, common_steps, or_parts, ties name e.0, all_entered P name t h es)

pub counted_provided : (name : List ℕ) (jobs : List Job) (seats : List SeatRecord) (es : List Named)
    → has_entry name (map record_at es) ≡ false → AreEntries jobs seats (map record_at es) → All IsSeated seats → AreCounted jobs seats es
    → AreCounted jobs seats (insert_entry (slice_cmp nat_cmp) es name fresh_entry)
counted_provided name jobs seats es none entries seated counts = grind (arith, all_entered, no_job_there, nobody_there)

-- entries are dropped
pub all_removed : (P : Named → Type 0) (test : List ℕ → Bool) (es : List Named) → All P es → All P (remove_entry test es)
all_removed P test [] all = tt
all_removed P test (e ∷ es) all = grind (arith, all_removed P test es)

-- at first there are no clients
pub first_seated : (ns : List ℕ) → All IsSeated (map empty_seat ns)
first_seated ns = all_of_map IsSeated empty_seat ns (all_always _ ns (λ n. record { waits = λ e. absurd cc; once = refl }))

pub first_counted : (ns : List ℕ) → AreCounted [] (map empty_seat ns) ((default_tube, fresh_entry) ∷ [])
first_counted ns =
    let has = all_of_map (HasTubes []) empty_seat ns (all_always _ ns (λ n. record { used = λ e. absurd cc; watched = λ e. absurd cc })) in
    ((refl, sym (nobody_there default_tube [] refl (map empty_seat ns) has (first_seated ns))), tt)
