-- The values of the ends in contracts.
use Rattle.std.specs.Prelude.{ℕ, ◌≡◌, ◌++◌, List, [], length, slice_get, slice_index_or, Some}
use denote.RawPtr.{Ptr}
use Rattle.atomic_table.specs.Seated.{TableId}
use Rattle.bq_job.specs.declared.answer.Answer.{Answer}
use Rattle.bq_job.specs.declared.step.Step.{Step}
use Rattle.bq_link.specs.Submissions.{Invariant, steps_of}

-- the identity of a ring
pub record RingId : Type 0 where
  pub words : Ptr
  pub slots : Ptr
  pub names : ℕ × (ℕ × ℕ)

-- Which intake it is, how many steps it has room for, and how many ends have a bell.
pub record IntakeState : Type 0 where
  pub id : TableId
  pub places : ℕ
  pub bells : ℕ

-- A seat's end: its number, its intake and ring, all steps that it submitted, the answers that it
-- took, and those that it knows to be waiting.
pub record SeatState : Type 0 where
  pub number : ℕ
  pub intake : TableId
  pub ring : RingId
  pub submitted : List Step
  pub taken : List Answer
  pub waiting : List Answer

-- The core's end: its intake and rings, the steps that it took, the submissions that it knows of,
-- the answers that it sent to each end, and how many more each ring is known to have room for.
pub record CoreState : Type 0 where
  pub intake : TableId
  pub rings : List RingId
  pub taken : List (ℕ × Step)
  pub told : List (ℕ × List Step)
  pub sent : List (List Answer)
  pub room : List ℕ

-- the answers sent to the end with this number
abbrev pub sent_to : CoreState → ℕ → List Answer
sent_to core number = slice_index_or core.sent number []

-- how many more answers its ring is known to have room for
abbrev pub room_for : CoreState → ℕ → ℕ
room_for core number = slice_index_or core.room number 0

-- two values of one end
abbrev pub IsSameSeat : SeatState → SeatState → Type 0
IsSameSeat first last = (last.number ≡ first.number) × (last.intake ≡ first.intake) × (last.ring ≡ first.ring)

abbrev pub IsSameCore : CoreState → CoreState → Type 0
IsSameCore first last = (last.intake ≡ first.intake) × (last.rings ≡ first.rings)

-- the core's end and a seat's end from one call of `links`
abbrev pub IsPair : CoreState → SeatState → Type 0
IsPair core seat = (core.intake ≡ seat.intake) × (slice_get core.rings seat.number ≡ Some seat.ring)

-- at some moment this many steps waited in the intake, and every step that the end submitted was
-- taken or among them
abbrev pub WasFull : Invariant → ℕ → SeatState → Type 0
WasFull was places seat = (taken waiting : List (ℕ × Step)) × was taken waiting
    × (length waiting ≡ places) × (steps_of seat.number (taken ++ waiting) ≡ seat.submitted)

-- how many answers a ring has room for
abbrev pub ring_places : ℕ
ring_places = 4

-- the later values of two ends are still a pair
abbrev pub PairsStay : Type 0
PairsStay = (core later : CoreState) (seat last : SeatState)
    → IsSameCore core later → IsSameSeat seat last → IsPair core seat → IsPair later last
