-- The seats of a run, each with its door.
use Rattle.std.specs.Prelude.{ℕ, ◌≡◌, ◌<◌, List, [], length, slice_index_or}
use Rattle.bq_job.specs.declared.answer.Answer.{Answer}
use Rattle.bq_job.specs.declared.step.Step.{Step}
use Rattle.bq_line.specs.Tending.{AreSame, DoorSeen, IsTended, Tends, door_seen}
use Rattle.bq_line.specs.declared.attendant.Attendant.{Attendant}
use Rattle.bq_line.specs.declared.attendant.SeatPhase.TheVariants.{Done}
use Rattle.bq_event_loop.specs.Meanings.{Door, Line}
use Rattle.bq_event_loop.specs.declared.row.Row.{Row}

-- A seat has done something for its door's connections, by the rules.
pub record IsSomehowTended {L : Type 0} (l : Line L) (a : Attendant L) (door : DoorSeen) : Type 0 where
  pub max_job_size : ℕ
  pub submitted : List Step
  pub taken : List Answer
  pub tended : IsTended l.seen max_job_size a door submitted taken

pub record AllTended {L D : Type 0} (l : Line L) (d : Door D L) (seats : List (Attendant L)) (doors : List D) : Type 0 where
  pub doored : length doors ≡ length seats
  pub each : (seat : ℕ) → seat < length seats → (a : Attendant L) (x : D)
      → IsSomehowTended l (slice_index_or seats seat a) (door_seen d (slice_index_or doors seat x))

-- Each seat has a door and has done something for the door's connections, by the rules.
abbrev pub AreTended : {L D : Type 0} → Line L → Door D L → Row L D → Type 0
AreTended l d row = AllTended l d row.seats.items row.doors.items

-- Between these two states each seat submitted the steps and took the answers that `did` and `took` say for it, whatever else was
-- done with it and its door.
pub record AllTend {L D : Type 0} (l : Line L) (d : Door D L) (did : ℕ → List Step) (took : ℕ → List Answer)
    (firsts : List (Attendant L)) (first_doors : List D) (seats : List (Attendant L)) (doors : List D) : Type 0 where
  pub many : length seats ≡ length firsts
  pub doored : length doors ≡ length first_doors
  pub each : (seat : ℕ) → seat < length firsts → (a : Attendant L) (x : D)
      → Tends l.seen (slice_index_or firsts seat a) (door_seen d (slice_index_or first_doors seat x)) (did seat) (took seat)
      (slice_index_or seats seat a) (door_seen d (slice_index_or doors seat x))
  pub same_doors : (handed_in : List D) → AreSame d.same handed_in first_doors → AreSame d.same handed_in doors

-- Between these two states no seat submitted a step or took an answer.
abbrev pub RestsSince : {L D : Type 0} → Line L → Door D L → Row L D → Row L D → Type 0
RestsSince l d first row = AllTend l d (λ t. []) (λ t. []) first.seats.items first.doors.items row.seats.items row.doors.items

-- Each seat has still done something for its door's connections, by the rules. In between it
-- submitted no step and took no answer.
abbrev pub KeepsRow : {L D : Type 0} → Line L → Door D L → Row L D → Row L D → Type 0
KeepsRow {L} {D} l d old new = AreTended l d new × ((first : Row L D) → RestsSince l d first old → RestsSince l d first new)

-- Every seat is done.
abbrev pub AreDone : {L : Type 0} → List (Attendant L) → Type 0
AreDone {L} seats = (seat : ℕ) → seat < length seats → (a : Attendant L) → (slice_index_or seats seat a).phase ≡ Done
