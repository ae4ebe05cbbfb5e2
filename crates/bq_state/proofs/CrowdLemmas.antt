-- Counts of the clients at tubes after a seat changes.
use Rattle.std.proofs.Common.{List, None, Option, Some, [], ap, arith, false, if◌then◌else◌, length, map, not, refl, sym, true, ℕ, ◌&&◌}
use Rattle.std.proofs.{Common.{◌∙◌, ◌∷◌, ◌≡◌, ◌≤◌}, lemmas.{Bool.{and_parts, not-true}, Cmp.nat_list_eq_equiv}}
use Rattle.std.{proofs.lemmas.{Grind.common_steps, List.map-id}, specs.{List.{AllByRecursion as All, list_any}, Option.option_map}}
use Rattle.bq_job.{proofs.ListLemmas.{all_always, all_of_map, all_weaker, map_all_same}, specs.{beside.none_twice, declared.job.Job.Job}}
use Rattle.bq_job.specs.{machine.{SeatRecord, greatest, is_seated_at, seat_with, watches}, reading.TubeName.is_same_name}
use Rattle.bq_state.proofs.ClientLemmas.{changed_at, count_changed, found_changed}
use Rattle.bq_state.proofs.PartsLemmas.{all_read, all_set, changed_there, none_passed}
use Rattle.bq_state.{proofs.{PartsLemmas.{number_kept, seat_there}, TubeLemmas.same_name}, specs.Counting.{AreCounted, recounted_for}}
use Rattle.bq_state.specs.Crowds.{IsSeated, crowd_of, crowd_with, crowd_without, has_seats, is_none, is_user, is_waiter, is_watcher}
use Rattle.bq_state.specs.{Crowds.{may_wait, roles_as_user, roles_as_watcher, touched}, SeatChanges.{AreNumbered, seat_changed}}
use Rattle.bq_state.specs.{SeatChanges.seat_changed_at, SeatStates.{is_asking, is_connected}, Tallies.tally_in, TubesSeen.EntrySeen}
use Rattle.bq_state.specs.TubesSeen.{Named, TubesSeen, entry_recounted, record_at, records, with_entries, with_entry}
use Rattle.bq_state.specs.declared.{seats.SeatChange.SeatChange, tubes.entry.AddOrRemove.{AddOrRemove, TheVariants.{Add, Remove}}}
use Rattle.bq_state.specs.declared.tubes.entry.Roles.{Roles}

-- Without a role nothing changes.
none_recounted : (how : AddOrRemove) (roles : Roles) → is_none roles ≡ true → (t : EntrySeen) → entry_recounted how roles t ≡ t
none_recounted how roles h t = grind arith

module _ (how : AddOrRemove) (roles : Roles) (none : is_none roles ≡ true) where
  pub same_recounted : (name : List ℕ) (k : TubesSeen) → with_entry name (entry_recounted how roles) k ≡ k
  same_recounted name k = grind (arith, map_all_same, all_always, none_recounted)

  pub all_recounted_same : (names : List (List ℕ)) (k : TubesSeen) → with_entries names (entry_recounted how roles) k ≡ k
  all_recounted_same [] k = refl
  all_recounted_same (n ∷ ns) k = ap (with_entries ns (entry_recounted how roles)) (same_recounted n k) ∙ all_recounted_same ns k

-- The roles of a client at the tube with this name, restricted to `what`.
abbrev pub roles_at : Roles → SeatRecord → List ℕ → Roles
roles_at what s name = record {
  using = what.using && is_user name s;
  watching = what.watching && is_watcher name s;
  waiting = what.waiting && is_waiter name s;
}

-- two changes of all entries
map_twice : (g h k : Named → Named) → ((e : Named) → g (h e) ≡ k e) → (es : List Named) → map g (map h es) ≡ map k es
map_twice g h k is [] = refl
map_twice g h k is (e ∷ es) = λ i. is e i ∷ map_twice g h k is es i

-- The entries with several names change, each of them once.
module _ (f : EntrySeen → EntrySeen) where
  pick : (n : List ℕ) (ns : List (List ℕ)) → none_twice (n ∷ ns) ≡ true → (name : List ℕ) (t : EntrySeen)
      → (if list_any (is_same_name name) ns then f (if is_same_name n name then f t else t) else (if is_same_name n name then f t else t))
      ≡ (if list_any (is_same_name name) (n ∷ ns) then f t else t)
  pick n ns once name t = grind (arith, common_steps, and_parts, not-true, same_name, nat_list_eq_equiv.symm n name)

  all_named : (names : List (List ℕ)) (k : TubesSeen) → none_twice names ≡ true
      → (with_entries names f k).entries ≡ map (λ e. (e.0, if list_any (is_same_name e.0) names then f e.1 else e.1)) k.entries
  all_named [] k once = sym (map-id k.entries)
  all_named (n ∷ ns) k once = all_named ns (with_entry n f k) (and_parts (not (list_any (is_same_name n) ns)) (none_twice ns) once).1
      ∙ map_twice _ _ _ (λ e. ap (λ t. (e.0, t)) (pick n ns once e.0 e.1)) k.entries

-- A client is counted at its tubes, or no longer counted.
combine : (how : AddOrRemove) (what : Roles) (s : SeatRecord) (name : List ℕ) (t : EntrySeen)
    → (let as_user = if is_same_name s.used name then entry_recounted how (roles_as_user what s) t else t in
    if watches name s then entry_recounted how (roles_as_watcher what s) as_user else as_user)
    ≡ entry_recounted how (roles_at what s name) t
combine how what s name t = grind (arith, common_steps, nat_list_eq_equiv.symm s.used name)

pub all_recounted : (how : AddOrRemove) (what : Roles) (s : SeatRecord) (k : TubesSeen) → none_twice s.watched ≡ true
    → (recounted_for how what (Some s) k).entries ≡ map (λ e. (e.0, entry_recounted how (roles_at what s e.0) e.1)) k.entries
all_recounted how what s k once = search (all_named, map_twice, combine)

-- The counts of a tube, after a change of a seat that affects only `what`.
pub crowd_changed : (n : ℕ) (f : SeatRecord → SeatRecord) → ((t : SeatRecord) → (f t).number ≡ t.number) → (what : Roles) (s : SeatRecord)
    (seats : List SeatRecord) (name : List ℕ) → AreNumbered seats → length seats ≤ greatest → seat_with n seats ≡ Some s
    → (what.using ≡ false → is_user name (f s) ≡ is_user name s) → (what.watching ≡ false → is_watcher name (f s) ≡ is_watcher name s)
    → (what.waiting ≡ false → is_waiter name (f s) ≡ is_waiter name s)
    → crowd_with (roles_at what (f s) name) (crowd_without (roles_at what s name) (crowd_of seats name))
    ≡ crowd_of (changed_at n f seats) name
crowd_changed n f keeps what s seats name h fits found u v w =
    λ i. record {
      using = count_changed n f keeps (is_user name) what.using (Some s) seats h fits found u i;
      watching = count_changed n f keeps (is_watcher name) what.watching (Some s) seats h fits found v i;
      waiting = count_changed n f keeps (is_waiter name) what.waiting (Some s) seats h fits found w i;
    }

pub crowd_moved : (n : ℕ) (what : SeatChange) (s : SeatRecord) (seats : List SeatRecord) → AreNumbered seats → length seats ≤ greatest
    → seat_with n seats ≡ Some s → (name : List ℕ) → crowd_with (roles_at (touched what) (seat_changed what s) name)
    (crowd_without (roles_at (touched what) s name) (crowd_of seats name)) ≡ crowd_of (map (seat_changed_at n what) seats) name
crowd_moved n what s seats h fits found name =
    grind (arith, common_steps, crowd_changed n (seat_changed what) (number_kept what) (touched what) s seats name)

-- The records stay.
names_recounted : (how : AddOrRemove) (roles : List ℕ → Roles) (es : List Named)
    → map record_at (map (λ e. (e.0, entry_recounted how (roles e.0) e.1)) es) ≡ map record_at es
names_recounted how roles [] = refl
names_recounted how roles (e ∷ es) = ap (λ rs. record_at e ∷ rs) (names_recounted how roles es)

pub records_recounted : (how : AddOrRemove) (what : Roles) (o : Option SeatRecord) (k : TubesSeen)
    → ((s : SeatRecord) → o ≡ Some s → none_twice s.watched ≡ true) → records (recounted_for how what o k) ≡ records k
records_recounted how what None k once = refl
records_recounted how what (Some s) k once =
    ap (map record_at) (all_recounted how what s k (once s refl)) ∙ names_recounted how (roles_at what s) k.entries

-- The seat with a number changes, if there is one.
module _ (n : ℕ) (what : SeatChange) (seats : List SeatRecord) (h : AreNumbered seats) (fits : length seats ≤ greatest)
    (may : may_wait what (seat_with n seats) ≡ true) (seated : All IsSeated seats) where
  pub seated_there : (s : SeatRecord) → seat_with n seats ≡ Some s → IsSeated s
  seated_there s found = all_read IsSeated seats n s seated (seat_there seats n s h found)

  seated_changed : (s : SeatRecord) → seat_with n seats ≡ Some s → IsSeated (seat_changed what s)
  seated_changed s found = let is = seated_there s found in grind (arith, common_steps)

  pub seated_moved : All IsSeated (map (seat_changed_at n what) seats)
  seated_moved = elim (seat_with n seats) as (λ o. seat_with n seats ≡ o → All IsSeated (map (seat_changed_at n what) seats)) [
    | None ↦ λ none. rw (none_passed _ (seat_changed what) seats none) seated
    | Some s ↦ λ found. rw (changed_there seats n s (seat_changed what) h (seat_there seats n s h found))
        (all_set IsSeated seats n _ seated (seated_changed s found))
  ] refl

  -- The counts of its old roles are taken away,
  pub counted_left : (jobs : List Job) (k : TubesSeen) (s : SeatRecord) → seat_with n seats ≡ Some s → AreCounted jobs seats k.entries
      → All (λ e. (e.1.tally ≡ tally_in jobs e.0) × (e.1.crowd ≡ crowd_without (roles_at (touched what) s e.0) (crowd_of seats e.0)))
      (recounted_for Remove (touched what) (Some s) k).entries
  counted_left jobs k s found counts = grind (arith, all_recounted, seated_there, all_of_map, all_weaker)

  -- and those of its new ones are added.
  pub counted_moved : (jobs : List Job) (k : TubesSeen) → AreCounted jobs seats k.entries
      → AreCounted jobs (map (seat_changed_at n what) seats)
      (recounted_for Add (touched what) (seat_with n (map (seat_changed_at n what) seats))
      (recounted_for Remove (touched what) (seat_with n seats) k)).entries
  counted_moved jobs k counts = rw (found_changed n (seat_changed what) (number_kept what) seats) (elim (seat_with n seats) as
      (λ o. seat_with n seats ≡ o → AreCounted jobs (map (seat_changed_at n what) seats)
      (recounted_for Add (touched what) (option_map (seat_changed what) o) (recounted_for Remove (touched what) o k)).entries) [
        | None ↦ λ none. rw (none_passed _ (seat_changed what) seats none) counts
        | Some s ↦ λ found. rw (all_recounted Add (touched what) (seat_changed what s) (recounted_for Remove (touched what) (Some s) k)
            (seated_changed s found).once) (all_of_map _ _ _ (all_weaker _ _ _ (λ e c.
            (c.0, ap (crowd_with (roles_at (touched what) (seat_changed what s) e.0)) c.1 ∙ crowd_moved n what s seats h fits found e.0))
            (counted_left jobs k s found counts)))
      ] refl)

-- A client is at the tube if one is counted as using or watching it.
pub has_seats_of : (seats : List SeatRecord) (name : List ℕ) → has_seats (crowd_of seats name) ≡ list_any (is_seated_at name) seats
has_seats_of [] name = refl
has_seats_of (s ∷ seats) name = grind (arith, common_steps, has_seats_of seats name)

-- a client that may make a request is connected
pub asking_is_connected : (o : Option SeatRecord) → is_asking o ≡ true → is_connected o ≡ true
asking_is_connected o h = grind (arith)
