-- Changes of seats, one by one.
use Rattle.std.specs.{List.list_any, Prelude.{Bool, List, Some, [], filter, if◌then◌else◌, length, map, not, set, slice_get, true, ℕ, ◌++◌}}
use Rattle.std.specs.Prelude.{◌==◌, ◌∷◌, ◌≡◌}
use Rattle.bq_job.specs.machine.{SeatRecord, TubeRecord, empty_seat, numbers, using, waiting_from, with_end, without_wait}
use Rattle.bq_job.specs.reading.TubeName.{is_same_name}
use Rattle.bq_state.specs.{TubeEntries.has_entry, declared.seats.SeatChange.{SeatChange, TheVariants.{Clear, Connect, End, StopWaiting}}}
use Rattle.bq_state.specs.declared.seats.SeatChange.TheVariants.{Use, Wait}

-- each seat is at the index of its number
abbrev pub AreNumbered : List SeatRecord → Type 0
AreNumbered seats = map (λ s. s.number) seats ≡ numbers 0 (length seats)

abbrev pub seat_changed : SeatChange → SeatRecord → SeatRecord
seat_changed StopWaiting s = without_wait s
seat_changed (Wait ticket until) s = waiting_from ticket until s
seat_changed Connect s = record (empty_seat s.number) { connected = true }
seat_changed Clear s = empty_seat s.number
seat_changed End s = with_end s
seat_changed (Use tube) s = using tube s

abbrev pub seat_changed_at : ℕ → SeatChange → SeatRecord → SeatRecord
seat_changed_at number change s = if s.number == number then seat_changed change s else s

-- the tube that the seat starts to use has an entry
abbrev pub has_tube_of : SeatChange → List TubeRecord → Bool
has_tube_of (Use tube) entries = has_entry tube entries
has_tube_of _ entries = true

-- the tubes that the client watches, and one more
abbrev pub more_watched : List ℕ → SeatRecord → List (List ℕ)
more_watched name s = s.watched ++ name ∷ []

-- the tubes that it watches, without this one
abbrev pub fewer_watched : List ℕ → SeatRecord → List (List ℕ)
fewer_watched name s = filter (λ other. not (is_same_name name other)) s.watched

-- it watches another tube than this one
abbrev pub watches_other : List ℕ → SeatRecord → Bool
watches_other name s = list_any (λ other. not (is_same_name name other)) s.watched

-- this holds for the record at index k
abbrev pub AtPlace : List SeatRecord → ℕ → (SeatRecord → Type 0) → Type 0
AtPlace seats k P = (s : SeatRecord) → slice_get seats k ≡ Some s → P s

-- the record at index k, if there is one, was changed this way
abbrev pub IsSetAt : List SeatRecord → ℕ → (SeatRecord → SeatRecord) → List SeatRecord → Type 0
IsSetAt seats k f later = AtPlace seats k (λ s. later ≡ set seats k (f s))
