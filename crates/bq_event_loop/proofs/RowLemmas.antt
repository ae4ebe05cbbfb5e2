-- One seat of a row, or its door, was changed, and the others stayed as they were.
use Rattle.std.proofs.lemmas.Grind.{common_steps}
use Rattle.std.proofs.Common.{◌≡◌, ◌≢◌, ℕ, zero, suc, ◌<◌, List, [], ◌∷◌, ◌++◌, length}
use Rattle.std.proofs.Common.{refl, sym, ◌∙◌, arith, subst, slice_set, slice_index_or}
use Rattle.std.specs.List.{All}
use Rattle.std.proofs.lemmas.Bool.{eqb-true, eqb-false}
use Rattle.std.proofs.lemmas.List.{get_or-set_other, get_or-set_same, get_or_default, length-set, set-get_or}
use Rattle.bq_job.specs.declared.answer.Answer.{Answer}
use Rattle.bq_job.specs.declared.step.Step.{Step}
use Rattle.bq_job.specs.promise.LineSteps.{LineSeen}
use Rattle.bq_line.specs.Tending.{AreSame, DoorSeen, IsNewDoor, IsNewSeat, IsPlaced, Tends, door_seen}
use Rattle.bq_line.specs.declared.attendant.Attendant.{Attendant}
use Rattle.bq_line.proofs.TendingLemmas.{tended_new, tends_still}
use Rattle.bq_event_loop.specs.Meanings.{Door, Line}
use Rattle.bq_event_loop.specs.Still.{IsStill}
use Rattle.bq_event_loop.specs.Rows.{AllTend, AllTended}
use Rattle.bq_event_loop.specs.declared.row.Row.{Row}

-- A seat rested, and rested again.
tends_then : {L : Type 0} (seen : L → LineSeen) (a b c : Attendant L) (at_a at_b at_c : DoorSeen) → Tends seen a at_a [] [] b at_b
    → Tends seen b at_b [] [] c at_c → Tends seen a at_a [] [] c at_c
tends_then seen a b c at_a at_b at_c h k size before got t =
    let x = h size before got t in
    let y = k size (before ++ []) (got ++ []) x.0 in
    grind (arith, common_steps)

-- A seat that was changed is still.
pub still_there : {L : Type 0} (l : Line L) (seats : List (Attendant L)) (i : ℕ) (new a : Attendant L) (mail : List Answer)
    → i < length seats → IsStill l new mail → IsStill l (slice_index_or (slice_set seats i new) i a) mail
still_there l seats i new a mail below still = grind (arith, common_steps)

-- A seat that submitted and took nothing stays as it was.
pub tends_none : {L : Type 0} (l : Line L) (a : Attendant L) (door : DoorSeen) (submitted : List Step) (taken : List Answer)
    → submitted ≡ [] → taken ≡ [] → Tends l.seen a door submitted taken a door
tends_none l a door submitted taken none_submitted none_taken = rw (none_submitted, none_taken) (tends_still l.seen a door)

-- Doors that are as they were are the same.
pub same_selves : {D : Type 0} (same : D → D → Type 0) → ((d : D) → same d d) → (doors : List D) → AreSame same doors doors
same_selves same self [] = tt
same_selves same self (d ∷ doors) = (self d, same_selves same self doors)

-- One door is still the same, and so are all.
pub same_set : {D : Type 0} (same : D → D → Type 0) (handed_in doors : List D) (i : ℕ) (d later : D)
    → ((first : D) → same first (slice_index_or doors i d) → same first later)
    → AreSame same handed_in doors → AreSame same handed_in (slice_set doors i later)
same_set same [] doors i d later on h = grind arith
same_set same (x ∷ handed_in) [] i d later on h = absurd h
same_set same (x ∷ handed_in) (y ∷ doors) zero d later on h = (on x h.0, h.1)
same_set same (x ∷ handed_in) (y ∷ doors) (suc i) d later on h = (h.0, same_set same handed_in doors i d later on h.1)

-- an element of a list that has one
pub some_one : {X : Type 0} (xs : List X) (i : ℕ) → i < length xs → X
some_one [] i h = absurd (omega arith)
some_one (x ∷ xs) i h = x

-- A property that holds for the changed seat and its door, and held for the others before, holds
-- for each seat and its door.
pub set_each : {L D : Type 0} (P : ℕ → Attendant L → D → Type 0) (seats : List (Attendant L)) (doors : List D) (i : ℕ) (new : Attendant L)
    (next : D) (x : Attendant L) (y : D) → i < length seats → length doors ≡ length seats → P i new next
    → ((t : ℕ) → t ≢ i → t < length seats → P t (slice_index_or seats t x) (slice_index_or doors t y))
    → (t : ℕ) → t < length seats → P t (slice_index_or (slice_set seats i new) t x) (slice_index_or (slice_set doors i next) t y)
set_each {L} {D} P seats doors i new next x y below doored own others t here =
    grind (arith, eqb-true, eqb-false, get_or-set_other, get_or-set_same)

module _ {L D : Type 0} {l : Line L} {d : Door D L} where
  -- Nothing was done with a row.
  pub rested_none : {seats : List (Attendant L)} {doors : List D} → AllTend l d (λ t. []) (λ t. []) seats doors seats doors
  rested_none = grind (arith, common_steps)

  -- The seats rested, and rested again.
  rested_then : {firsts seats more : List (Attendant L)} {first_doors doors later : List D}
      → AllTend l d (λ t. []) (λ t. []) firsts first_doors seats doors → AllTend l d (λ t. []) (λ t. []) seats doors more later
      → AllTend l d (λ t. []) (λ t. []) firsts first_doors more later
  rested_then {firsts} {seats} h k = record {
    many = k.many ∙ h.many;
    doored = k.doored ∙ h.doored;
    each = λ t below a x. tends_then l.seen _ _ _ _ _ _ (h.each t below a x) (k.each t (subst (λ n. t < n) (sym h.many) below) a x);
    same_doors = λ handed_in e. k.same_doors handed_in (h.same_doors handed_in e);
  }

  -- Seats that went on by the rules have done something by the rules.
  pub tended_on : {did : ℕ → List Step} {took : ℕ → List Answer} {firsts seats : List (Attendant L)} {first_doors doors : List D}
      → AllTended l d firsts first_doors → AllTend l d did took firsts first_doors seats doors → AllTended l d seats doors
  tended_on {did} {took} all h = record {
    doored = h.doored ∙ all.doored ∙ sym h.many;
    each = λ t below a x.
        let here = subst (λ n. t < n) h.many below in
        let s = all.each t here a x in
        record {
          max_job_size = s.max_job_size;
          submitted = s.submitted ++ did t;
          taken = s.taken ++ took t;
          tended = (h.each t here a x s.max_job_size s.submitted s.taken s.tended).0;
        };
  }

  -- One seat went on with its door, which were looked up, and the others stayed as they were.
  pub tend_set : (did : ℕ → List Step) (took : ℕ → List Answer) {seats : List (Attendant L)} {doors : List D} {i : ℕ} {a new : Attendant L}
      {x : D} (next : D) → i < length seats → length doors ≡ length seats → a ≡ slice_index_or seats i a → x ≡ slice_index_or doors i x
      → Tends l.seen a (door_seen d x) (did i) (took i) new (door_seen d next)
      → ((t : ℕ) → t ≢ i → (did t ≡ []) × (took t ≡ [])) → ((first : D) → d.same first x → d.same first next)
      → AllTend l d did took seats doors (slice_set seats i new) (slice_set doors i next)
  tend_set did took {seats} {doors} {i} {a} {new} {x} next below doored a_is x_is own others on = record {
    many = length-set seats i new;
    doored = length-set doors i next;
    each = λ t here y z. set_each (λ (n : ℕ) (u : Attendant L) (v : D). Tends l.seen (slice_index_or seats n y)
        (door_seen d (slice_index_or doors n z)) (did n) (took n) u (door_seen d v)) seats doors i new next y z below doored
        (let seat_is : slice_index_or seats i y ≡ a = sym (a_is ∙ get_or_default seats i a y below) in
        let door_is : slice_index_or doors i z ≡ x = sym (x_is ∙ get_or_default doors i x z (omega (arith, doored, below))) in
        rw (seat_is, door_is) own)
        (λ n differs there. tends_none l _ _ _ _ (others n differs).0 (others n differs).1) t here;
    same_doors = λ handed_in h. same_set d.same handed_in doors i x next (rw (← x_is) on) h;
  }

module _ {L D : Type 0} {l : Line L} {d : Door D L} {seats : List (Attendant L)} {doors : List D} {i : ℕ} where
  -- Both of a seat that rested with its door.
  pub keeps_set : {a new : Attendant L} {x next : D} → i < length seats
      → AllTended l d seats doors → a ≡ slice_index_or seats i a → x ≡ slice_index_or doors i x
      → Tends l.seen a (door_seen d x) [] [] new (door_seen d next) → ((first : D) → d.same first x → d.same first next)
      → AllTended l d (slice_set seats i new) (slice_set doors i next)
      × ((first : Row L D) → AllTend l d (λ t. []) (λ t. []) first.seats.items first.doors.items seats doors
      → AllTend l d (λ t. []) (λ t. []) first.seats.items first.doors.items (slice_set seats i new) (slice_set doors i next))
  keeps_set {a} {new} {x} {next} below all a_is x_is tends on =
      let set = tend_set (λ t. []) (λ t. []) next below all.doored a_is x_is tends (λ t differs. (refl, refl)) on in
      (tended_on all set, λ first h. rested_then h set)

  -- The same if nothing was done with the door.
  pub keeps_seat : {a new : Attendant L} → i < length seats
      → AllTended l d seats doors → a ≡ slice_index_or seats i a → ((door : DoorSeen) → Tends l.seen a door [] [] new door)
      → AllTended l d (slice_set seats i new) doors
      × ((first : Row L D) → AllTend l d (λ t. []) (λ t. []) first.seats.items first.doors.items seats doors
      → AllTend l d (λ t. []) (λ t. []) first.seats.items first.doors.items (slice_set seats i new) doors)
  keeps_seat {a} {new} below all is tends =
      let there : i < length doors = omega (arith, all.doored, below) in
      let y = some_one doors i there in
      let x = slice_index_or doors i y in
      let same = set-get_or doors i y in
      rw same at (keeps_set below all is (get_or_default doors i y x there) (tends (door_seen d x)) (λ first h. h))

  -- The same if nothing was done with the seat, and nothing that is seen of the door.
  pub keeps_door : {x next : D} → i < length seats → AllTended l d seats doors → x ≡ slice_index_or doors i x
      → door_seen d next ≡ door_seen d x → ((first : D) → d.same first x → d.same first next)
      → AllTended l d seats (slice_set doors i next)
      × ((first : Row L D) → AllTend l d (λ t. []) (λ t. []) first.seats.items first.doors.items seats doors
      → AllTend l d (λ t. []) (λ t. []) first.seats.items first.doors.items seats (slice_set doors i next))
  keeps_door {x} {next} below all is seen on =
      let y = some_one seats i below in
      let a = slice_index_or seats i y in
      let same = set-get_or seats i y in
      let still : Tends l.seen a (door_seen d x) [] [] a (door_seen d next) = rw seen (tends_still l.seen a (door_seen d x)) in
      rw same at (keeps_set below all (get_or_default seats i y a below) is still on)

  -- A seat and a door that were looked up are placed together.
  pub placed_there : {a : Attendant L} {x : D} → i < length seats
      → AllTended l d seats doors → a ≡ slice_index_or seats i a → x ≡ slice_index_or doors i x → IsPlaced a.phase (door_seen d x)
  placed_there {a} {x} below all a_is x_is = rw (a_is, x_is) (all.each i below a x).tended.placed

module _ {L D : Type 0} (l : Line L) (d : Door D L) where
  -- All seats and doors are new.
  pub tended_at_first : {size : ℕ} {seats : List (Attendant L)} {doors : List D} → length doors ≡ length seats → All (IsNewSeat size) seats
      → All (λ x. IsNewDoor (door_seen d x)) doors → AllTended l d seats doors
  tended_at_first {size} {seats} {doors} doored seats_new doors_new = record {
    doored = doored;
    each = λ t here x y. record {
      max_job_size = size;
      submitted = [];
      taken = [];
      tended = tended_new l.seen size (slice_index_or seats t x) (door_seen d (slice_index_or doors t y)) (seats_new t x here)
          (doors_new t y (omega (arith, doored, here)));
    };
  }
