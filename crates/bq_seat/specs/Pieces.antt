-- How many bytes a seat machine takes at once.
use Rattle.std.specs.Prelude.{ℕ, ◌≤◌, ◌⊎◌}
use Rattle.bq_wire.specs.Standing.{missing_at}
use Rattle.bq_wire.specs.declared.reader.ReaderPlace.{ReaderPlace}
use Rattle.bq_seat.specs.declared.machine.SeatMachine.{SeatMachine}
use Rattle.bq_seat.specs.declared.machine.Stage.{Stage}
use Rattle.bq_seat.specs.declared.machine.Stage.TheVariants as stages
use Rattle.bq_seat.specs.declared.machine.TheConstants.{PIECE_ROOM}

-- how many bytes the put that is read in this stage still lacks
abbrev pub missing_if : Stage → ReaderPlace → ℕ
missing_if stages.Reading place = missing_at place
missing_if _ place = 0

abbrev pub missing_in : SeatMachine → ℕ
missing_in m = missing_if m.stage m.reader.place

-- A piece of this many bytes can be kept, or all of it belongs to the body of a put.
abbrev pub HasRoomIn : ReaderPlace → ℕ → Type 0
HasRoomIn place count = (count ≤ PIECE_ROOM) ⊎ (count ≤ missing_at place)

abbrev pub HasRoomFor : SeatMachine → ℕ → Type 0
HasRoomFor m count = (count ≤ PIECE_ROOM) ⊎ (count ≤ missing_in m)
