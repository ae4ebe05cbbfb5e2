-- How many tubes the waiting clients watch.
use Rattle.std.specs.{List.sum_by, Prelude.{if◌then◌else◌, length, ℕ}}
use Rattle.bq_job.specs.machine.{Machine.Machine, SeatRecord, is_waiting}

-- how many tubes the client watches, if it waits
abbrev pub waited_tubes : SeatRecord → ℕ
waited_tubes s = if is_waiting s then length s.watched else 0

-- how many tubes the waiting clients watch
abbrev pub waited : Machine → ℕ
waited m = sum_by waited_tubes m.seats
