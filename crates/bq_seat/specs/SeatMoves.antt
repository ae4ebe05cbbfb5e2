-- What a seat machine does with an event.
use Rattle.std.specs.Prelude.{◌≡◌, ◌≤◌, true, false, not, length, Some}
use Rattle.bq_job.specs.declared.answer.Answer.{Answer}
use Rattle.bq_job.specs.declared.step.Step.TheVariants as steps
use Rattle.bq_seat.specs.Finds.{Finds}
use Rattle.bq_seat.specs.NextByPast.{IsNextAction}
use Rattle.bq_seat.specs.Past.{Past, past_after, first_past, is_stray, awaited_by, answers, with_event}
use Rattle.bq_seat.specs.SeatStands.{StandsFor, awaited, kept_bytes}
use Rattle.bq_seat.specs.declared.machine.Event.{Event}
use Rattle.bq_seat.specs.declared.machine.Event.TheVariants as events
use Rattle.bq_seat.specs.declared.machine.Action.{Action}
use Rattle.bq_seat.specs.declared.machine.Action.TheVariants as actions
use Rattle.bq_seat.specs.declared.machine.SeatMachine.{SeatMachine}
use Rattle.bq_seat.specs.declared.machine.TheConstants.{PIECE_ROOM}

-- A piece of bytes fits into the room for it.
abbrev pub FitsPiece : Event → Type 0
FitsPiece (events.Bytes bytes) = length bytes.now ≤ PIECE_ROOM
FitsPiece _ = Unit {0}

-- An awaited connection that is opened begins with its connect, and has a past of its own.
abbrev pub OpensPast : Event → Action → SeatMachine → Type 0
OpensPast events.Opened action new = is_stray action ≡ false → (action ≡ actions.Submit steps.Connect) × StandsFor new first_past
OpensPast _ action new = Unit {0}

pub record IsMove (old : SeatMachine) (event : Event) (action : Action) (new : SeatMachine) : Type 0 where
  -- an event is stray if and only if it does not answer the last action
  pub stray : is_stray action ≡ not (answers event (awaited old))
  pub unchanged : is_stray action ≡ true → new ≡ old
  -- what is awaited next is what answers the action
  pub awaits : is_stray action ≡ false → awaited_by action ≡ Some (awaited new)
  pub limit : new.reader.max_job_size ≡ old.reader.max_job_size
  pub opened : OpensPast event action new
  -- every past that the machine represents continues with this event and this action
  pub past : (p : Past) → StandsFor old p → StandsFor new (past_after event action p)
  -- the past and the event justify the action
  pub finds : is_stray action ≡ false → (p : Past) → StandsFor old p → Finds old.reader.max_job_size action (with_event event p)
  -- what the machine does next
  pub looks : is_stray action ≡ false → (p : Past) → StandsFor old p → IsNextAction (awaited old) (kept_bytes old) event p action

-- The request was submitted, and then this answer came.
abbrev pub IsAnswered : SeatMachine → Answer → Action → SeatMachine → Type 0
IsAnswered old answer action new =
    (between : SeatMachine) × IsMove old events.Submitted actions.PollMail between × IsMove between (events.Mail answer) action new
