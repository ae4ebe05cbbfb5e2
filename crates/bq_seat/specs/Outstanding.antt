-- How many answers are outstanding while a connection is read.
use Rattle.std.specs.Prelude.{◌≡◌, ◌+◌, Bool, true, false, length}
use Rattle.bq_seat.specs.Past.{Awaited, Past}
use Rattle.bq_seat.specs.SeatStands.{StandsFor, awaited}
use Rattle.bq_seat.specs.declared.machine.SeatMachine.{SeatMachine}

-- When a read is awaited, the connection's steps are a connect and its requests. All of them were
-- answered, or all except the last.
abbrev pub ReadsWith : Bool → SeatMachine → Type 0
ReadsWith false m = awaited m ≡ Awaited.AReading → (p : Past) → StandsFor m p → length p.steps ≡ length p.mail + 1
ReadsWith true m = awaited m ≡ Awaited.AReading → (p : Past) → StandsFor m p → length p.steps ≡ length p.mail + 2
