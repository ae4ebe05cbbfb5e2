-- Seats that the turns of a loop let act before they sleep.
use Rattle.std.proofs.lemmas.Grind.{common_steps}
use Rattle.std.proofs.Common.{ℕ, zero, suc, ◌≡◌, ◌⊎◌, inr, ◌+◌, ◌≤◌, ◌<◌, ◌==◌, nat_lt, Bool, true, false}
use Rattle.std.proofs.Common.{List, [], ◌∷◌, ◌++◌, length, slice_set, slice_index_or, if◌then◌else◌, Option, Some, None, refl, ap}
use Rattle.std.proofs.Common.{◌∙◌, arith, rules}
use Rattle.std.specs.Option.{option_to_list}
use Rattle.std.specs.Prelude.{slice_get}
use Rattle.std.proofs.lemmas.Bool.{eq-eqb, or_parts, or_right}
use Rattle.std.proofs.lemmas.Bool.Decides.{nat_tests}
use Rattle.std.proofs.lemmas.List.{get_or-set_same}
use Rattle.bq_job.specs.declared.answer.Answer.{Answer}
use Rattle.bq_line.specs.declared.attendant.Attendant.{Attendant}
use Rattle.bq_line.specs.declared.attendant.SeatPhase.{SeatPhase}
use Rattle.bq_line.specs.Tending.{IsNewSeat}
use Rattle.bq_event_loop.proofs.ListingLemmas.{falls_once}
use Rattle.std.specs.List.{All}
use Rattle.bq_host.proofs.MarkLemmas.{one_if, times_push}
use Rattle.bq_event_loop.specs.Keeping.{Chooses, KeepsSeats}
use Rattle.bq_event_loop.specs.Known.{AreIdle, AreKnown, AreSameLists, ChangesOnly, ChangesOnlyIn}
use Rattle.bq_event_loop.specs.Known.{IsListedIn, IsNextOf, IsTaken, KnowsAll, is_listed, is_on, is_trying, is_visited}
use Rattle.bq_event_loop.specs.Sleeping.{visited_by}
use Rattle.bq_event_loop.specs.Meanings.{Line}
use Rattle.bq_event_loop.specs.Listings.{Listing, all_free, enqueued, freed, is_nowhere}
use Rattle.bq_host.specs.Marks.{times}
use Rattle.bq_event_loop.specs.declared.order.Order.{Order}
use Rattle.bq_event_loop.specs.declared.turns.Task.{Task}
use Rattle.bq_event_loop.specs.declared.turns.Turn.{Turn}
use Rattle.bq_event_loop.specs.declared.turns.Turn.TheVariants as turns
use Rattle.bq_host.specs.WakeLists.{WakeList, Wakes, none_waits}

-- One element of a list was changed.
pub changed_one : {L : Type 0} {seats : List (Attendant L)} {i : ℕ} (new : Attendant L) → ChangesOnly i seats (slice_set seats i new)
changed_one {L} {seats} {i} new = grind (arith, common_steps)

-- The phase of a seat that was changed.
pub changed_phase : {L : Type 0} (seats : List (Attendant L)) (i : ℕ) (new : Attendant L) (a : Attendant L) (place : SeatPhase L)
    → i < length seats → new.phase ≡ place → (slice_index_or (slice_set seats i new) i a).phase ≡ place
changed_phase seats i new a place below is = ap (λ z. z.phase) (get_or-set_same seats i new a below) ∙ is

pub changed_then : {L : Type 0} {i : ℕ} {a b c : List (Attendant L)} → ChangesOnly i a b → ChangesOnly i b c → ChangesOnly i a c
changed_then h k = grind arith

same_times : (l : Listing) (i t : ℕ) → i ≡ t → times i l.queue + times i l.free ≡ times t l.queue + times t l.free
same_times l i t = ap (λ n. times n l.queue + times n l.free)

-- The visited seat acts.
pub listed_self : (l : Listing) (i : ℕ) → is_listed l (Some i) i ≡ true
listed_self l i = or_right (is_on l.queue i) (i == i) (eq-eqb i i refl)

module _ {still free : Option ℕ} where
  -- Seats changed places in the queue, or a part of a round began.
  pub keeps_same : {l later : Listing} → AreSameLists l later → KeepsSeats still free l None later None
  keeps_same {l} {later} same = record {
    seats = same.seats;
    each = λ t. let q = same.queue t in let f = same.free in grind (arith, nat_tests);
  }

  -- The visited seat goes on.
  pub keeps_visited : {l : Listing} {i j : ℕ} → j ≡ i → KeepsSeats still free l (Some i) l (Some j)
  keeps_visited is = grind arith

  -- A seat is not visited any more that does not exist, is in a list, or at which nothing moves.
  keeps_left : {l later : Listing} {i : ℕ} → later ≡ l → (l.seats ≤ i) ⊎ (0 < times i l.queue + times i l.free) ⊎ (still ≡ Some i)
      → KeepsSeats still free l (Some i) later None
  keeps_left {l} {later} {i} same left = record {
    seats = ap (λ z. z.seats) same;
    each = λ t.
        let q = ap (λ z. times t z.queue) same in
        let f = ap (λ z. times t z.free) same in
        let e = same_times l i t in
        grind (arith, nat_tests);
  }

  -- Nothing moves at the visited seat.
  pub keeps_rests : {l : Listing} {i j : ℕ} → still ≡ Some j → j ≡ i → KeepsSeats still free l (Some i) l None
  keeps_rests is same = keeps_left refl (inr (inr (is ∙ ap (λ n. Some n) same)))

  -- The visited seat goes to the queue.
  pub keeps_enqueued : {l later : Listing} {i : ℕ} → later ≡ enqueued i l → KeepsSeats still free l (Some i) later None
  keeps_enqueued {l} {later} {i} is = by (is_nowhere i l) refl is where
    by : (b : Bool) → is_nowhere i l ≡ b → later ≡ (if b then record l { queue = l.queue ++ i ∷ [] } else l)
        → KeepsSeats still free l (Some i) later None
    by true gone same = grind (arith, common_steps)
    by false kept same = keeps_left same (grind (arith, nat_tests))

  -- The visited seat found no client.
  pub keeps_freed : {l later : Listing} {i : ℕ} → free ≡ Some i → later ≡ freed i l → KeepsSeats still free l (Some i) later None
  keeps_freed {l} {later} {i} found is = by (is_nowhere i l) refl is where
    by : (b : Bool) → is_nowhere i l ≡ b → later ≡ (if b then record l { free = l.free ++ i ∷ [] } else l)
        → KeepsSeats still free l (Some i) later None
    by true gone same = record {
      seats = ap (λ z. z.seats) same;
      each = λ t.
          let q = ap (λ z. times t z.queue) same in
          let f = ap (λ z. times t z.free) same ∙ times_push t l.free i in
          let e = same_times l i t in
          grind (arith, nat_tests);
    }
    by false kept same = keeps_left same (grind (arith, nat_tests))

  -- The next seat is visited. It was taken out of the queue, or it stays there.
  pub chooses_next : {l : Listing} {i j : ℕ} {task : Task} {order : Order} {turn : Turn} → IsTaken i l order.queue
      → visited_by order.stage order.visit ≡ Some j → j ≡ i → turn ≡ turns.Serve j task → Chooses still free l None order turn
  chooses_next {l} {i} {j} is visited same chosen = grind (arith, common_steps, listed_self)

  -- No seat was dropped, and none began to check for a client.
  pub keeps_any : {old mid : Listing} {visited next : Option ℕ} → KeepsSeats None None old visited mid next
      → KeepsSeats still free old visited mid next
  keeps_any h = record { seats = h.seats; each = λ t. let x = h.each t in grind arith }

  -- The queue was changed before the turn was chosen.
  pub chooses_then : {old mid : Listing} {visited : Option ℕ} {order : Order} {turn : Turn} → KeepsSeats still free old visited mid None
      → Chooses None None mid None order turn → Chooses still free old visited order turn
  chooses_then h k =
      record {
        keeps = record {
          seats = k.keeps.seats ∙ h.seats;
          each = λ t. let x = h.each t in let y = k.keeps.each t in let s = h.seats in grind arith;
        };
        acts = k.acts;
      }

-- Seats changed places in the queue, and then a part of a round began.
pub same_moved : {l mid later : Listing} {queue : List ℕ} {round at : ℕ} → mid ≡ record l { queue = queue }
    → ((t : ℕ) → times t mid.queue ≡ times t l.queue) → later ≡ record mid { round = round; at = at } → AreSameLists l later
same_moved moved same began = record {
  seats = ap (λ z. z.seats) began ∙ ap (λ z. z.seats) moved;
  queue = λ t. ap (λ z. times t z.queue) began ∙ same t;
  free = ap (λ z. z.free) began ∙ ap (λ z. z.free) moved;
}

module _ {still free : Option ℕ} {old : Listing} {visited : Option ℕ} {order : Order} {turn : Turn} where
  -- The turn was chosen, and no seat was dropped.
  pub chooses_any : Chooses None None old visited order turn → Chooses still free old visited order turn
  chooses_any k = record { keeps = keeps_any k.keeps; acts = k.acts }

  -- The turn was chosen after a check for a client.
  pub chooses_tried : {mid : Listing} → KeepsSeats None free old visited mid None → Chooses None None mid None order turn
      → Chooses still free old visited order turn
  chooses_tried h = chooses_then (record { seats = h.seats; each = λ t. let x = h.each t in grind arith })

-- A seat at a place of the queue is on it.
got_on : (xs : List ℕ) (n i : ℕ) → Some i ≡ slice_get xs n → is_on xs i ≡ true
got_on [] n i is = absurd cc
got_on (x ∷ xs) zero i is = grind (arith, common_steps)
got_on (x ∷ xs) (suc n) i is = grind (arith, common_steps, one_if, nat_tests, got_on xs n i is)

pub next_in_round_is : (l : Listing) {later : Listing} {result : Option ℕ}
    → result ≡ (if nat_lt l.at l.round then slice_get l.queue l.at else None)
    → later ≡ record l { at = l.at + length (option_to_list result) } → IsNextOf result l later
next_in_round_is l h1 h2 = grind (arith, got_on)

-- No seat acts, and none checks for a client that may have come: no list has a seat, except that of
-- the seats that check for a client if none may have come.
none_on : (xs : List ℕ) → ((t : ℕ) → is_on xs t ≡ false) → xs ≡ []
none_on [] none = refl
none_on (x ∷ xs) none = grind (arith, got_on (x ∷ xs) zero x refl)

pub idle_visits : (may_come : Bool) (l : Listing) (visited : Option ℕ) → AreIdle may_come (is_listed l visited) (is_trying l)
    → visited ≡ None
idle_visits may_come l None idle = refl
idle_visits may_come l (Some i) idle = grind (arith, eq-eqb i i refl)

pub idle_queue : (may_come : Bool) (l : Listing) (visited : Option ℕ) → AreIdle may_come (is_listed l visited) (is_trying l)
    → l.queue ≡ []
idle_queue may_come l visited idle = none_on l.queue (λ t. (or_parts (is_on l.queue t) (is_visited visited t) (idle.acts t)).0)

pub idle_free : (may_come : Bool) (l : Listing) (visited : Option ℕ) → may_come ≡ true
    → AreIdle may_come (is_listed l visited) (is_trying l) → l.free ≡ []
idle_free may_come l visited may idle = none_on l.free (idle.checks may)

-- Seats that all check for a client are known.
pub all_known : (seats : ℕ) (l : Listing) → l ≡ all_free seats → KnowsAll seats l.seats (is_listed l None) (is_trying l)
all_known seats l is =
    rw is (record { all = omega arith; apart = λ t tries on. absurd cc; each = λ t below. inr (grind (arith, falls_once seats t below)) })

-- New seats are known by turns that know all seats.
pub known_at_first : {L : Type 0} {line : Line L} {many seats : ℕ} {listed tries : ℕ → Bool} {all : List (Attendant L)}
    {mails : List (List Answer)} {size : ℕ} → length all ≡ seats → KnowsAll seats many listed tries → All (IsNewSeat size) all
    → AreKnown line many listed tries [] all mails
known_at_first same knows new = grind arith

module _ {L : Type 0} {line : Line L} {many : ℕ} {listed tries : ℕ → Bool} where
  pub known_after : (turn : Turn) {seats later : List (Attendant L)} {mails after : List (List Answer)} {old new : WakeList}
      → old ≡ none_waits (length mails) → length later ≤ length mails → Wakes mails after old new
      → IsListedIn listed turn → ChangesOnlyIn turn seats later
      → AreKnown line many listed tries [] seats mails → AreKnown line many listed tries new.waiting later after
  known_after turn {seats} {later} {mails} none within wakes acts only k = search rules
