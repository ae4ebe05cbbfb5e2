-- The tubes that may no longer exist after a seat changes: those that its client left, except those
-- that exist by their counts.
use Rattle.std.proofs.Common.{Bool, List, Some, [], ap, arith, length, map, not, sym, true, ℕ, ◌&&◌, ◌||◌, ◌==◌, ◌∙◌, ◌∷◌, ◌≡◌, ◌≤◌}
use Rattle.std.{proofs.lemmas.Grind.common_steps, specs.List.{AllByRecursion as All, list_any}}
use Rattle.bq_job.{proofs.ListLemmas.{all_at, all_from_members, all_weaker, list_any_with}, specs.declared.job.Job.Job}
use Rattle.bq_job.specs.{machine.{SeatRecord, greatest, is_seated_at, seat_with}, reading.TubeName.is_same_name}
use Rattle.bq_state.proofs.{CountedLemmas.{has_jobs_in, no_job_there, value_there}, CrowdLemmas.{counted_left, crowd_moved, has_seats_of}}
use Rattle.bq_state.proofs.{CrowdLemmas.{records_recounted, roles_at, seated_there}, MaybeGoneLemmas.{any_set, still_gone}}
use Rattle.bq_state.proofs.{PartsLemmas.{changed_there, none_passed, seat_there}, TubeLemmas.{same_itself, same_name}}
use Rattle.bq_state.specs.Counting.{AreCounted}
use Rattle.bq_state.specs.{Counting.recounted_for, Crowds.{IsSeated, crowd_of, crowd_without, may_wait, touched}, Leaving.exists_in}
use Rattle.bq_state.specs.{Leaving.{gone_all, gone_of, gone_unless, left_names}, MaybeGoneTubes.{AreAlive, is_accounted, may_be_gone}}
use Rattle.bq_state.specs.{SeatChanges.{AreNumbered, seat_changed, seat_changed_at}, Tallies.tally_in, TubeEntries.{has_entry, is_tube_of}}
use Rattle.bq_state.specs.{TubesSeen.{TubesSeen, crowd_by, records, tally_by}, declared.known.maybe_gone.MaybeGone.MaybeGone}
use Rattle.bq_state.specs.declared.{seats.SeatChange.SeatChange, tubes.entry.AddOrRemove.TheVariants.Remove}

gone_step : (n : List ℕ) (maybe : MaybeGone) (name : List ℕ) (rest there n_there : Bool) → (is_same_name name n ≡ true → n_there ≡ there)
    → (may_be_gone maybe name || ((is_same_name name n || rest) && not there)) ≡ true
    → (may_be_gone (gone_unless n_there n maybe) name || (rest && not there)) ≡ true
gone_step n maybe name rest there n_there same h = grind (arith, common_steps, still_gone)

module _ (k : TubesSeen) where
  -- Those of these tubes that don't exist may be gone, and so may those that might be before.
  all_gone : (names : List (List ℕ)) (name : List ℕ) (maybe : MaybeGone)
      → (may_be_gone maybe name || (list_any (is_same_name name) names && not (exists_in k name))) ≡ true
      → may_be_gone (gone_all k names maybe) name ≡ true
  all_gone [] name maybe h = grind (arith, common_steps)
  all_gone (n ∷ ns) name maybe h = all_gone ns name (gone_unless (exists_in k n) n maybe)
      (gone_step n maybe name (list_any (is_same_name name) ns) _ _ (λ same. ap (exists_in k) (sym (same_name name n same))) h)

-- A tube that existed still does, or was left, and then it may be gone.
accounted : (was is may_be may_be_then left there : Bool) → (was ≡ true → (is || left) ≡ true) → (there ≡ true → is ≡ true)
    → ((may_be || (left && not there)) ≡ true → may_be_then ≡ true) → (was || may_be) ≡ true → (is || may_be_then) ≡ true
accounted was is may_be may_be_then left there leaves stays goes h = grind (arith, common_steps)

module _ (n : ℕ) (what : SeatChange) (maybe : MaybeGone) (jobs : List Job) (seats : List SeatRecord) (k : TubesSeen)
    (h : AreNumbered seats) (fits : length seats ≤ greatest) (may : may_wait what (seat_with n seats) ≡ true)
    (of_jobs : All (λ j. has_entry j.tube (records k) ≡ true) jobs) (seated : All IsSeated seats)
    (counts : AreCounted jobs seats k.entries) where
  abbrev new : List SeatRecord
  new = map (seat_changed_at n what) seats

  module _ (s : SeatRecord) (found : seat_with n seats ≡ Some s) where
    abbrev left : TubesSeen
    left = recounted_for Remove (touched what) (Some s) k

    same_records : records left ≡ records k
    same_records = records_recounted Remove (touched what) (Some s) k
        (λ t is. (seated_there n what seats h fits may seated t (found ∙ is)).once)

    -- A tube that exists by its counts without the seat still exists afterwards.
    exists_then : (name : List ℕ) → has_entry name (records k) ≡ true → exists_in left name ≡ true → is_tube_of jobs new name ≡ true
    exists_then name there e =
        let mid = counted_left n what seats h fits may seated jobs k s found counts in
        let of = rw (← same_records) at of_jobs in
        let tally = value_there tally_by (tally_in jobs) name left.entries (all_weaker _ _ _ (λ e c. c.0) mid)
        (λ none. no_job_there name (records left) none jobs of) in
        let crowd = value_there crowd_by (λ m. crowd_without (roles_at (touched what) s m) (crowd_of seats m)) name left.entries
        (all_weaker _ _ _ (λ e c. c.1) mid) (λ none. let e = rw (same_records, there) at none in absurd cc) in
        grind (arith, has_jobs_in name jobs, crowd_moved n what s seats h fits found name, has_seats_of new name)

    entry_accounted : (name : List ℕ) → has_entry name (records k) ≡ true → is_accounted maybe jobs seats name ≡ true
        → is_accounted (gone_of (touched what) left (Some s) maybe) jobs new name ≡ true
    entry_accounted name there is =
        let place = seat_there seats n s h found in
        let leaves = list_any (is_same_name name) (left_names (touched what) s) in
        let still = any_set (is_seated_at name) leaves seats n s (seat_changed what s) place (λ was. grind (arith)) in
        accounted (is_tube_of jobs seats name) (is_tube_of jobs new name) (may_be_gone maybe name) _ _ (exists_in left name)
        (λ was. grind (arith, common_steps, changed_there seats n s (seat_changed what) h place))
        (exists_then name there) (all_gone left (left_names (touched what) s) name maybe) is

  pub alive_left : AreAlive maybe jobs seats (records k)
      → AreAlive (gone_of (touched what) (recounted_for Remove (touched what) (seat_with n seats) k) (seat_with n seats) maybe) jobs
      (map (seat_changed_at n what) seats) (records k)
  alive_left all =
      let same = none_passed (λ (s : SeatRecord). s.number == n) (seat_changed what) seats in
      grind (arith, common_steps, all_from_members, entry_accounted, list_any_with, same_itself, all_at)
