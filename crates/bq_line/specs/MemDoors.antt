-- The connections of a door in memory.
use Rattle.std.specs.Prelude.{◌≡◌, ℕ, Result, slice_get, vec_len}
use Rattle.bq_job.specs.declared.line_end.LineEnd.{LineEnd}
use Rattle.bq_job.specs.promise.History.{LineOver}
use Rattle.bq_line.specs.LineCalls.{new_line}
use Rattle.bq_job.specs.promise.LineSteps.{LineSeen}
use Rattle.bq_line.specs.LineParts.{IsAnsweredBy, bytes_up_to, open_place, place_after}
use Rattle.bq_line.specs.declared.line.mem_line.MemLine.{MemLine}
use Rattle.bq_line.specs.declared.line.stream_error.StreamError.{StreamError}

-- what a connection in memory records
abbrev pub seen_of : MemLine → LineSeen
seen_of line = record {
  read = bytes_up_to line.parts.items line.place line.offset;
  written = line.written.items;
  ended = line.ended;
  fault = line.fault;
}

-- The client has the same parts, and as many bytes can still be written to it.
abbrev pub KeepsPartsAndRoom : MemLine → MemLine → Type 0
KeepsPartsAndRoom old new = (new.parts ≡ old.parts) × (new.room ≡ old.room)

-- The first part that isn't done answers a read with this result, and no other is skipped.
abbrev pub ReadsNextPart : MemLine → Result ℕ StreamError → MemLine → Type 0
ReadsNextPart old result new =
    let place = open_place old.parts.items old.place old.offset (vec_len old.written) in
    IsAnsweredBy (slice_get old.parts.items place) result
    × (new.place ≡ place_after (slice_get old.parts.items place) place) × KeepsPartsAndRoom old new

-- the connection is unused
abbrev pub IsFresh : MemLine → Type 0
IsFresh line = seen_of line ≡ new_line

-- a connection that was shut, as it records itself
abbrev pub line_over : MemLine × LineEnd → LineOver
line_over over = record { seen = seen_of over.0; over = over.1 }
