-- The bytes of a body as they are kept, and the number beside them.
use Rattle.std.specs.Prelude.{ℕ, ◌-◌, List, take, vec_len}
use Rattle.std.specs.Arc.{arc_value}
use Rattle.std.specs.Vec.{vec_capacity}
use Rattle.bq_job.specs.declared.bytes.Bytes.{Bytes}
use Rattle.bq_job.specs.declared.bytes.Bytes.TheVariants as kept

-- the bytes: those in use at the front of an array, or a whole vector
abbrev pub bytes_in : Bytes → List ℕ
bytes_in (kept.UpTo16 count note shared) = take count (arc_value shared)
bytes_in (kept.UpTo32 count note shared) = take count (arc_value shared)
bytes_in (kept.UpTo48 count note shared) = take count (arc_value shared)
bytes_in (kept.UpTo64 count note shared) = take count (arc_value shared)
bytes_in (kept.UpTo96 count note shared) = take count (arc_value shared)
bytes_in (kept.UpTo128 count note shared) = take count (arc_value shared)
bytes_in (kept.Long note shared) = (arc_value shared).items

-- the number beside them
abbrev pub note_in : Bytes → ℕ
note_in (kept.UpTo16 count note shared) = note
note_in (kept.UpTo32 count note shared) = note
note_in (kept.UpTo48 count note shared) = note
note_in (kept.UpTo64 count note shared) = note
note_in (kept.UpTo96 count note shared) = note
note_in (kept.UpTo128 count note shared) = note
note_in (kept.Long note shared) = note

-- how many more bytes there is room for
abbrev pub room_in : Bytes → ℕ
room_in (kept.UpTo16 count note shared) = 16 - count
room_in (kept.UpTo32 count note shared) = 32 - count
room_in (kept.UpTo48 count note shared) = 48 - count
room_in (kept.UpTo64 count note shared) = 64 - count
room_in (kept.UpTo96 count note shared) = 96 - count
room_in (kept.UpTo128 count note shared) = 128 - count
room_in (kept.Long note shared) = vec_capacity (arc_value shared) - vec_len (arc_value shared)
