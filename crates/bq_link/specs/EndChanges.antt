-- How calls change the core's end.
use Rattle.std.specs.Prelude.{ℕ, ◌++◌, [], ◌∷◌, slice_set}
use Rattle.bq_job.specs.declared.answer.Answer.{Answer}
use Rattle.bq_link.specs.EndStates.{CoreState, SeatState, sent_to}

-- an answer was sent to the end with this number
abbrev pub with_sent : CoreState → ℕ → Answer → CoreState
with_sent core number answer = record core { sent = slice_set core.sent number (sent_to core number ++ answer ∷ []) }

-- the ring of that end is known to have room for this many answers
abbrev pub with_room : CoreState → ℕ → ℕ → CoreState
with_room core number room = record core { room = slice_set core.room number room }

-- it knows what a seat's end submitted
abbrev pub with_told : CoreState → SeatState → CoreState
with_told core seat = record core { told = (seat.number, seat.submitted) ∷ core.told }
