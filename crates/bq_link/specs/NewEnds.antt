-- New ends.
use Rattle.std.specs.Prelude.{ℕ, ◌≡◌, ◌<◌, ◌++◌, List, [], ◌∷◌, length, replicate, slice_index_or}
use Rattle.bq_link.specs.EndStates.{CoreState, IsPair, RingId, SeatState, ring_places}

-- a new core's end for this many seats' ends
pub record IsNewCore (ends : ℕ) (core : CoreState) : Type 0 where
  pub rings : length core.rings ≡ ends
  pub taken : core.taken ≡ []
  pub told : core.told ≡ []
  pub sent : core.sent ≡ replicate ends []
  pub room : core.room ≡ replicate ends ring_places

-- a new seat's end next to it
pub record IsNewSeat (core : CoreState) (place : ℕ) (seat : SeatState) : Type 0 where
  pub number : seat.number ≡ place
  pub pair : IsPair core seat
  pub submitted : seat.submitted ≡ []
  pub taken : seat.taken ≡ []
  pub waiting : seat.waiting ≡ []

-- the ends in the order of their numbers
abbrev pub AreNewSeats : CoreState → List SeatState → Type 0
AreNewSeats core seats = (place : ℕ) (d : SeatState) → place < length seats → IsNewSeat core place (slice_index_or seats place d)

-- the core's end with one more ring
abbrev pub with_ring : CoreState → RingId → CoreState
with_ring core ring = record core {
  rings = core.rings ++ ring ∷ [];
  sent = core.sent ++ [] ∷ [];
  room = core.room ++ ring_places ∷ [];
}

-- the end of that ring
abbrev pub next_seat : CoreState → RingId → SeatState
next_seat core ring = record {
  number = length core.rings;
  intake = core.intake;
  ring = ring;
  submitted = [];
  taken = [];
  waiting = [];
}
