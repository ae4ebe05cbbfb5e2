-- The parts of a connection in memory, and how far they were read.
use Rattle.std.specs.Prelude.{ℕ, zero, suc, ◌+◌, ◌<◌, ◌≡◌, List, [], ◌∷◌, ◌++◌, take, drop, length}
use Rattle.std.specs.Prelude.{Bool, true, false, nat_le, if◌then◌else◌, Option, Some, None, Result, Ok, Err}
use Rattle.bq_line.specs.LineCalls.{is_nothing_yet}
use Rattle.bq_line.specs.declared.line.mem_line.Part.{Part}
use Rattle.bq_line.specs.declared.line.mem_line.Part.TheVariants as parts
use Rattle.bq_line.specs.declared.line.stream_error.StreamError.{StreamError}

abbrev pub part_bytes : Part → List ℕ
part_bytes (parts.Bytes bytes) = bytes.items
part_bytes (parts.AfterWritten count) = []
part_bytes parts.Fault = []

-- the bytes of the parts before this place, and then the first `offset` bytes of the part at it
abbrev pub bytes_up_to : List Part → ℕ → ℕ → List ℕ
bytes_up_to [] place offset = []
bytes_up_to (part ∷ more) zero offset = take offset (part_bytes part)
bytes_up_to (part ∷ more) (suc place) offset = part_bytes part ++ bytes_up_to more place offset

-- the bytes of all parts
abbrev pub all_bytes : List Part → List ℕ
all_bytes [] = []
all_bytes (part ∷ more) = part_bytes part ++ all_bytes more

-- whether a part is done, given how many of its bytes were read and how many bytes were written to
-- the connection
abbrev pub is_over : ℕ → ℕ → Part → Bool
is_over offset written (parts.Bytes bytes) = nat_le (length bytes.items) offset
is_over offset written (parts.AfterWritten count) = nat_le count written
is_over offset written parts.Fault = false

-- how many parts are done, before the first one that isn't
abbrev pub over_count : List Part → ℕ → ℕ → ℕ
over_count [] offset written = 0
over_count (part ∷ more) offset written = if is_over offset written part then suc (over_count more 0 written) else 0

-- the place of the first part that isn't done, from this place on
abbrev pub open_place : List Part → ℕ → ℕ → ℕ → ℕ
open_place all place offset written = place + over_count (drop place all) offset written

-- The result of a read if this part comes next: bytes, no bytes yet, or a fault; after the last
-- part, the end of the input.
abbrev pub IsAnsweredBy : Option Part → Result ℕ StreamError → Type 0
IsAnsweredBy None (Ok count) = count ≡ 0
IsAnsweredBy (Some (parts.Bytes bytes)) (Ok count) = 0 < count
IsAnsweredBy (Some (parts.AfterWritten count)) (Err e) = is_nothing_yet e ≡ true
IsAnsweredBy (Some parts.Fault) (Err e) = is_nothing_yet e ≡ false
IsAnsweredBy part answer = ⊥

-- A part that is a fault is done once a read returned it.
abbrev pub place_after : Option Part → ℕ → ℕ
place_after (Some parts.Fault) place = suc place
place_after part place = place
