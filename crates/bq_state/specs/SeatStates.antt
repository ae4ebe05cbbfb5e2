-- Tests of a seat, if there is one: whether it is free, and whether its client may make a request.
use Rattle.std.specs.Prelude.{Bool, None, Option, Some, false, not, ◌&&◌}
use Rattle.bq_job.specs.machine.{SeatRecord, is_waiting}

-- there is a seat, and it passes the test
abbrev pub seat_passes : (SeatRecord → Bool) → Option SeatRecord → Bool
seat_passes p None = false
seat_passes p (Some s) = p s

-- no client is connected there
abbrev pub is_free : Option SeatRecord → Bool
is_free = seat_passes (λ s. not s.connected)

abbrev pub is_connected : Option SeatRecord → Bool
is_connected = seat_passes (λ s. s.connected)

-- the client there may make a request
abbrev pub is_asking : Option SeatRecord → Bool
is_asking = seat_passes (λ s. s.connected && not (is_waiting s))
