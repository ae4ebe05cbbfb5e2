-- The seats that the turns of a loop let act before they sleep.
use Rattle.std.specs.Prelude.{ℕ, ◌≡◌, ◌≢◌, ◌<◌, ◌≤◌, ◌⊎◌, ◌==◌, ◌||◌, not, Bool, true, false, List, [], ◌∷◌, length, Option, Some, None}
use Rattle.std.specs.Prelude.{slice_index_or}
use Rattle.bq_job.specs.declared.answer.Answer.{Answer}
use Rattle.bq_line.specs.declared.attendant.Attendant.{Attendant}
use Rattle.bq_line.specs.declared.attendant.SeatPhase.TheVariants as phases
use Rattle.bq_event_loop.specs.Listings.{Listing}
use Rattle.bq_host.specs.Marks.{times}
use Rattle.bq_event_loop.specs.Meanings.{Line}
use Rattle.bq_event_loop.specs.Still.{IsStill}
use Rattle.bq_event_loop.specs.declared.turns.Turn.{Turn}
use Rattle.bq_event_loop.specs.declared.turns.Turn.TheVariants as turns

-- No seat acts, and none checks for a client that may have come.
pub record AreIdle (may_come : Bool) (listed tries : ℕ → Bool) : Type 0 where
  pub acts : (seat : ℕ) → listed seat ≡ false
  pub checks : may_come ≡ true → (seat : ℕ) → tries seat ≡ false

-- No seat that checks for a client is one that acts.
abbrev pub AreApart : (ℕ → Bool) → (ℕ → Bool) → Type 0
AreApart listed tries = (seat : ℕ) → tries seat ≡ true → listed seat ≡ true → ⊥

-- No seat is forgotten. The turns, which know this many seats, let `listed` act, and let `tries`
-- try their doors. These seats are to be woken. Each seat acts before the turns sleep, or it checks for a client before they sleep
-- if one may have come, or it is to be woken, or nothing moves at it.
pub record AreKnown {L : Type 0} (l : Line L) (many : ℕ) (listed tries : ℕ → Bool) (woken : List ℕ)
    (seats : List (Attendant L)) (mails : List (List Answer)) : Type 0 where
  pub all : length seats ≤ many
  pub apart : AreApart listed tries
  pub trying : (seat : ℕ) → seat < length seats → tries seat ≡ true → (a : Attendant L)
      → (slice_index_or seats seat a).phase ≡ phases.Between
  pub known : (seat : ℕ) → seat < length seats → (a : Attendant L)
      → (listed seat ≡ true) ⊎ (tries seat ≡ true) ⊎ (0 < times seat woken)
      ⊎ IsStill l (slice_index_or seats seat a) (slice_index_or mails seat [])

-- Nothing moves at any seat: its next action would move nothing, or it checks for a client, and none
-- can have come.
abbrev pub AreStill : {L : Type 0} → Line L → Bool → List (Attendant L) → List (List Answer) → Type 0
AreStill {L} l may_come seats mails = (seat : ℕ) → seat < length seats → (a : Attendant L)
    → IsStill l (slice_index_or seats seat a) (slice_index_or mails seat [])
    ⊎ (((slice_index_or seats seat a).phase ≡ phases.Between) × (may_come ≡ false))

-- At most this seat was changed.
pub record ChangesOnly {L : Type 0} (one : ℕ) (old new : List (Attendant L)) : Type 0 where
  pub many : length new ≡ length old
  pub others : (seat : ℕ) → seat ≢ one → (a : Attendant L) → slice_index_or new seat a ≡ slice_index_or old seat a

-- At most the seat of this turn was changed.
abbrev pub ChangesOnlyIn : {L : Type 0} → Turn → List (Attendant L) → List (Attendant L) → Type 0
ChangesOnlyIn (turns.Serve seat task) old new = ChangesOnly seat old new
ChangesOnlyIn _ old new = new ≡ old

-- A seat that acts or checks for a client in a turn is one that the turns let act.
abbrev pub IsListedIn : (ℕ → Bool) → Turn → Type 0
IsListedIn listed (turns.Serve seat task) = listed seat ≡ true
IsListedIn listed (turns.TryOpen seat) = listed seat ≡ true
IsListedIn listed (turns.HandOn seat) = listed seat ≡ true
IsListedIn listed _ = Unit {0}

-- The seat that checked for a client and found none is between two connections.
abbrev pub IsFreeSeat : {L : Type 0} → Option ℕ → List (Attendant L) → Type 0
IsFreeSeat {L} free seats = (seat : ℕ) → free ≡ Some seat → (a : Attendant L) → (slice_index_or seats seat a).phase ≡ phases.Between

-- Nothing moves at the still seat.
abbrev pub IsStillSeat : {L : Type 0} → Line L → Option ℕ → List (Attendant L) → List (List Answer) → Type 0
IsStillSeat {L} l still seats mails = (seat : ℕ) → still ≡ Some seat → (a : Attendant L)
    → IsStill l (slice_index_or seats seat a) (slice_index_or mails seat [])

-- All that were let act still are.
abbrev pub KeepsAll : (ℕ → Bool) → (ℕ → Bool) → Type 0
KeepsAll old new = (seat : ℕ) → old seat ≡ true → new seat ≡ true

abbrev pub is_on : List ℕ → ℕ → Bool
is_on xs seat = not (times seat xs == 0)

abbrev pub is_visited : Option ℕ → ℕ → Bool
is_visited None seat = false
is_visited (Some visited) seat = visited == seat

-- in the queue, or visited now
abbrev pub is_listed : Listing → Option ℕ → ℕ → Bool
is_listed l visited seat = is_on l.queue seat || is_visited visited seat

abbrev pub is_trying : Listing → ℕ → Bool
is_trying l seat = is_on l.free seat

-- Both lists have the same seats, in any order.
pub record AreSameLists (old new : Listing) : Type 0 where
  pub seats : new.seats ≡ old.seats
  pub queue : (seat : ℕ) → times seat new.queue ≡ times seat old.queue
  pub free : new.free ≡ old.free

-- A seat of the queue is the next to be visited. It is taken out, or it stays.
pub record IsTaken (seat : ℕ) (old new : Listing) : Type 0 where
  pub seats : new.seats ≡ old.seats
  pub free : new.free ≡ old.free
  pub queue : (old.queue ≡ seat ∷ new.queue) ⊎ ((is_on old.queue seat ≡ true) × (new.queue ≡ old.queue))

abbrev pub IsNextOf : Option ℕ → Listing → Listing → Type 0
IsNextOf None old new = AreSameLists old new × (new.queue ≡ old.queue)
IsNextOf (Some seat) old new = IsTaken seat old new

-- Turns that know these seats at first: each of them acts, or checks for a client.
pub record KnowsAll (seats many : ℕ) (listed tries : ℕ → Bool) : Type 0 where
  pub all : seats ≤ many
  pub apart : AreApart listed tries
  pub each : (seat : ℕ) → seat < seats → (listed seat ≡ true) ⊎ (tries seat ≡ true)
