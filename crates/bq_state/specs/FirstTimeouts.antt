-- When the first wait times out.
use Rattle.std.specs.{List.AllByRecursion, Prelude.{Bool, List, None, Option, Some, false, fold, if◌then◌else◌, is_some, not, true, ℕ}}
use Rattle.std.specs.Prelude.{◌&&◌, ◌≡◌}
use Rattle.bq_job.specs.{beside.{dues_of_wait, earliest}, machine.{SeatRecord, is_waiting}}
use Rattle.bq_state.specs.{Dues.with_seat_due, declared.known.first_timeout.FirstTimeout.{FirstTimeout, TheVariants.{Known, Unknown}}}
use Rattle.bq_state.specs.declared.seats.SeatChange.{SeatChange, TheVariants.{Clear, Connect, End, StopWaiting, Use, Wait}}

-- when the client's wait times out, if it waits
abbrev pub gives_up_at : SeatRecord → Option ℕ
gives_up_at s = earliest (dues_of_wait s.wait)

-- the client waits, and sends no more
abbrev pub is_gone_in_wait : SeatRecord → Bool
is_gone_in_wait s = is_waiting s && s.ended

abbrev pub IsThere : SeatRecord → Type 0
IsThere s = is_gone_in_wait s ≡ false

-- What is known of the first end is true.
abbrev pub AreTimeouts : FirstTimeout → List SeatRecord → Type 0
AreTimeouts Unknown seats = Unit {0}
AreTimeouts (Known first) seats = (fold with_seat_due None seats ≡ first) × AllByRecursion IsThere seats

-- the change does not affect when the client's wait times out
abbrev pub keeps_timeout : SeatChange → SeatRecord → Bool
keeps_timeout StopWaiting s = not (is_some (gives_up_at s))
keeps_timeout (Wait ticket until) s = not (is_some until) && not (is_some (gives_up_at s)) && not s.ended
keeps_timeout Connect s = not (is_some (gives_up_at s))
keeps_timeout Clear s = not (is_some (gives_up_at s))
keeps_timeout End s = not (is_waiting s)
keeps_timeout (Use tube) s = true

-- what is known after a change of a seat, if there is one
abbrev pub timeout_after : SeatChange → Option SeatRecord → FirstTimeout → FirstTimeout
timeout_after what None first = first
timeout_after what (Some s) first = if keeps_timeout what s then first else Unknown
