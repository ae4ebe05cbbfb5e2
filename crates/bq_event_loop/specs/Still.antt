-- Seats at which nothing moves.
use Rattle.std.specs.Prelude.{◌≡◌, ◌⊎◌, ◌&&◌, Bool, false, List, []}
use Rattle.bq_job.specs.declared.answer.Answer.{Answer}
use Rattle.bq_line.specs.declared.attendant.Attendant.{Attendant}
use Rattle.bq_line.specs.declared.attendant.SeatPhase.{SeatPhase}
use Rattle.bq_line.specs.declared.attendant.SeatPhase.TheVariants as phases
use Rattle.bq_event_loop.specs.Meanings.{Line}
use Rattle.bq_seat.specs.Outstanding.{ReadsWith}
use Rattle.bq_seat.specs.SeatParts.{would_read}
use Rattle.bq_seat.specs.declared.machine.Action.{Action}
use Rattle.bq_seat.specs.declared.machine.Action.TheVariants as actions
use Rattle.bq_seat.specs.declared.machine.SeatMachine.{SeatMachine}

-- This action would move nothing. The connection gives bytes and takes bytes, as far as it knows,
-- and these answers wait for the seat. A seat that polls its mail may read afterwards.
abbrev pub IsStillOn : Action → SeatMachine → Bool → Bool → List Answer → Type 0
IsStillOn actions.Read machine gives takes mail = (gives ≡ false) × ((mail ≡ []) ⊎ ReadsWith false machine)
IsStillOn actions.PollMail machine gives takes mail = (mail ≡ []) × ((gives && would_read machine) ≡ false)
IsStillOn (actions.Write answer) machine gives takes mail = takes ≡ false
IsStillOn _ machine gives takes mail = ⊥

abbrev pub IsStillAt : {L : Type 0} → Line L → SeatMachine → SeatPhase L → List Answer → Type 0
IsStillAt l machine (phases.On line action sent) mail = IsStillOn action machine (l.may_give line) (l.may_take line) mail
IsStillAt l machine phases.Done mail = Unit {0}
IsStillAt l machine _ mail = ⊥

-- The next action of a seat would move nothing, and so would the one after it. A seat between two
-- connections, or one that has to submit that no more connections come, is not still.
abbrev pub IsStill : {L : Type 0} → Line L → Attendant L → List Answer → Type 0
IsStill l a mail = IsStillAt l a.machine a.phase mail
