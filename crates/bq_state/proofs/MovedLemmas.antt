-- What a change of a job keeps.
use Rattle.std.proofs.Common.{Bool, List, Some, [], ap, arith, if◌then◌else◌, length, map, refl, true, ℕ, ◌&&◌, ◌==◌, ◌∙◌, ◌∷◌, ◌≡◌, ◌≤◌}
use Rattle.std.{proofs.lemmas.{Cmp.nat_list_eq_equiv, Grind.common_steps, List.length-map}, specs.{List.list_any, Prelude.count_by}}
use Rattle.bq_job.specs.{beside.AreIdsWithin, declared.job.Job.Job, machine.{SeatRecord, TubeRecord, greatest, is_ready_state, job_with}}
use Rattle.bq_job.specs.reading.TubeName.{is_same_name}
use Rattle.bq_jobs.proofs.Changes.{changed as changed_by_id, found_id}
use Rattle.bq_jobs.specs.Changed.{AsksNoTube, IgnoresTube, KeepsId, KeepsTube, moved_by}
use Rattle.bq_jobs.specs.{Changed.with_changed, JobsSeen.{with_added, without}, declared.numbered_jobs.JobMove.JobMove}
use Rattle.bq_state.proofs.{CountedLemmas.counted_by, PartsLemmas.{all_filtered, all_kept}, TallyLemmas.{one_added, one_taken, tally_is}}
use Rattle.bq_state.{proofs.{WantedLemmas.known_added, WarningLemmas.warned_added}, specs.{Counting.AreCounted, Crowds.is_waiter}}
use Rattle.bq_state.specs.{JobChanges.{changed, passes}, MaybeGoneTubes.AreAlive, SeatChanges.AreNumbered}
use Rattle.bq_state.specs.Tallies.{count_with, count_without}
use Rattle.bq_state.specs.{Tallies.{tally_moved, tally_of}, TubeEntries.AreEntries, TubesSeen.{Named, changed_named, entry_moved}}
use Rattle.bq_state.specs.{WantedJobs.{AreKnown, with_wanted}, Warnings.{AreWarned, has_waiting_holder, with_holder_of}}
use Rattle.bq_state.specs.declared.job_store.{JobChange.JobChange, JobTest.JobTest}
use Rattle.bq_state.specs.declared.known.{maybe_gone.MaybeGone.MaybeGone, tally.Tally.Tally}
use Rattle.bq_state.specs.declared.known.{wanted.Wanted.Wanted, warns.Warns.Warns}

-- no change depends on the tube
pub tube_ignored : (change : JobChange) → IgnoresTube (changed change)
tube_ignored change j tube = grind (arith)

-- so none moves a job to another tube
pub tube_kept : (change : JobChange) → KeepsTube (changed change)
tube_kept change j = ap (λ (i : Job). i.tube) (tube_ignored change j j.tube)

-- and no test asks for it
pub asks_no_tube : (t : JobTest) → AsksNoTube (passes t)
asks_no_tube t j tube = grind arith

-- only one job is changed
module _ (id : ℕ) (f : Job → Job) where
  pub one_id : KeepsId f → KeepsId (λ k. if k.id == id then f k else k)
  one_id keeps k = grind (arith, common_steps, keeps k)

  pub one_tube : KeepsTube f → KeepsTube (λ k. if k.id == id then f k else k)
  one_tube stays k = grind (arith, common_steps)

module _ (g : Job → Job) (stays : KeepsTube g) where
  pub entries_of_changed : (jobs : List Job) (seats : List SeatRecord) (entries : List TubeRecord) → AreEntries jobs seats entries
      → AreEntries (map g jobs) seats entries
  entries_of_changed jobs seats entries e = grind (arith, all_kept)

  any_kept : (name : List ℕ) (jobs : List Job)
      → list_any (λ j. is_same_name name j.tube) (map g jobs) ≡ list_any (λ j. is_same_name name j.tube) jobs
  any_kept name [] = refl
  any_kept name (j ∷ jobs) = grind (arith, any_kept name jobs)

  pub alive_changed : (maybe : MaybeGone) (jobs : List Job) (seats : List SeatRecord) (entries : List TubeRecord)
      → AreAlive maybe jobs seats entries → AreAlive maybe (map g jobs) seats entries
  alive_changed maybe jobs seats entries all = simp any_kept all

-- the priority or the state of a job changes
module _ (low next id : ℕ) (f : Job → Job) (keeps : KeepsId f) (stays : KeepsTube f) (j : Job) (m : JobMove) (is : m ≡ moved_by f j) where
  module _ (jobs : List Job) (ids : AreIdsWithin low jobs next) (found : job_with id jobs ≡ Some j) where
    made_of : with_added (f j) (without id jobs) ≡ with_changed id f jobs
    made_of = changed_by_id low next id f j jobs ids found (keeps j ∙ found_id id jobs j found)

    pub known_moved : (wanted : Wanted) (seats : List SeatRecord) (tubes : List TubeRecord) (b : Bool)
        → b ≡ (is_ready_state m.to.state && list_any (is_waiter m.tube) seats) → AreKnown wanted jobs seats tubes
        → AreKnown (if b then with_wanted m.tube wanted else wanted) (with_changed id f jobs) seats tubes
    known_moved wanted seats tubes b e was = grind (arith, known_added, all_filtered, made_of)

    pub warned_moved : (warns : Warns) (seats : List SeatRecord) (b : Bool) → AreNumbered seats → b ≡ has_waiting_holder m.to.state seats
        → AreWarned warns jobs seats → AreWarned (if b then with_holder_of m.to.state warns else warns) (with_changed id f jobs) seats
    warned_moved warns seats b numbered e was = grind (arith, warned_added, all_filtered, made_of)

  module _ (jobs : List Job) (ids : AreIdsWithin low jobs next) (found : job_with id jobs ≡ Some j) (fits : length jobs ≤ greatest) where
    counts_moved : (p : Job → Bool) → count_with (p (f j)) (count_without (p j) (count_by p jobs)) ≡ count_by p (with_changed id f jobs)
    counts_moved p =
        let made = made_of jobs ids found in
        let fits_then : length (with_added (f j) (without id jobs)) ≤ greatest = rw (made, length-map jobs _) fits in
        ap (count_with (p (f j))) (one_taken low next id j jobs ids found p) ∙ one_added (f j) (without id jobs) fits_then p
        ∙ ap (count_by p) made

    abbrev step : (Job → Bool) → ℕ → ℕ
    step p n = count_with (p (f j)) (count_without (p j) n)

    pub tally_of_moved : (tally : Tally) → tally ≡ tally_of jobs → tally_moved m tally ≡ tally_of (with_changed id f jobs)
    tally_of_moved tally so_far = rw (is, so_far) (tally_is true step jobs (with_changed id f jobs) counts_moved)

    pub counted_moved : (seats : List SeatRecord) (es : List Named) → AreCounted jobs seats es
        → AreCounted (with_changed id f jobs) seats (map (changed_named m.tube (entry_moved m)) es)
    counted_moved = rw is (counted_by step j.tube jobs (with_changed id f jobs) counts_moved
        (λ name p n. grind (arith, common_steps, stays j, nat_list_eq_equiv.symm name j.tube)) (entry_moved (moved_by f j)) (λ t. refl)
        (λ t. refl))
