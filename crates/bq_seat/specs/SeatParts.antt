-- What the parts of a seat machine's moves do, in terms of its fields.
use Rattle.std.specs.Prelude.{ℕ, ◌≡◌, ◌==◌, ◌≤◌, ◌&&◌, Bool, true, false, not, if◌then◌else◌, List, length, Some, None, IfSome}
use Rattle.bq_job.specs.declared.line_end.LineEnd.{LineEnd}
use Rattle.bq_job.specs.declared.request.Request.{Request}
use Rattle.bq_job.specs.declared.request.Request.TheVariants.{Quit}
use Rattle.bq_job.specs.declared.step.Step.TheVariants as steps
use Rattle.bq_job.specs.reading.Reading.{is_quit}
use Rattle.bq_job.specs.promise.LineSteps.{is_waiting_request}
use Rattle.bq_seat.specs.NextByPast.{GoesFurther, IsNextAction}
use Rattle.bq_seat.specs.Past.{Past, answers, awaited_by, first_past, is_stray, past_after, with_action}
use Rattle.bq_seat.specs.SeatStands.{AgreesWith, IsOpen, awaited}
use Rattle.bq_seat.specs.Served.{IsServed}
use Rattle.bq_wire.specs.Standing.{HandsRequest, Stands, TakesMissing, Waits, request_in}
use Rattle.bq_wire.specs.declared.reader.ReaderState.{ReaderState}
use Rattle.bq_wire.specs.declared.reader.Taken.{Taken}
use Rattle.bq_seat.specs.declared.machine.Action.{Action}
use Rattle.bq_seat.specs.declared.machine.Action.TheVariants as actions
use Rattle.bq_seat.specs.declared.machine.Event.{Event}
use Rattle.bq_seat.specs.declared.machine.Event.TheVariants as events
use Rattle.bq_seat.specs.declared.machine.SeatMachine.{SeatMachine}
use Rattle.bq_seat.specs.declared.machine.Stage.{Stage}
use Rattle.bq_seat.specs.declared.machine.Stage.TheVariants as stages

-- No answer is outstanding, and the machine continues with this action.
pub record GoesOn (old : SeatMachine) (action : Action) (new : SeatMachine) : Type 0 where
  pub further : GoesFurther action
  pub awaits : awaited_by action ≡ Some (awaited new)
  pub limit : new.reader.max_job_size ≡ old.reader.max_job_size
  pub past : (p : Past) → IsOpen old.reader old.kept old.end_told 0 p → AgreesWith new (with_action action p)

abbrev pub in_stage : Stage → SeatMachine → SeatMachine
in_stage stage m = record m { stage = stage }

-- the machine between two connections, with this reader
abbrev pub between : ReaderState → SeatMachine → SeatMachine
between reader m = record m { reader = reader; stage = stages.Between }

-- the machine with these bytes kept
abbrev pub holding : List ℕ → SeatMachine → SeatMachine
holding bytes m = record m { kept = bytes }

-- a request is being submitted
abbrev pub is_asking : Stage → Bool
is_asking (stages.Asking waits) = true
is_asking _ = false

-- The connection is read although the answer to a request is outstanding.
abbrev pub reads_beside : Stage → Bool
reads_beside stages.ReadingOn = true
reads_beside _ = false

-- what is awaited after this request was submitted
abbrev pub asking_stage : Request → Stage
asking_stage request = if is_quit request then stages.AskingQuit else stages.Asking (is_waiting_request request)

-- While a reserve waits, the connection is read if no bytes are kept and the input has not ended.
abbrev pub reads_on : Bool → SeatMachine → Bool
reads_on waits m = waits && not m.end_told && (length m.kept == 0)

-- the same by its stage
abbrev pub would_read_in : Stage → SeatMachine → Bool
would_read_in stages.Reading m = true
would_read_in stages.ReadingOn m = true
would_read_in (stages.Polling waits) m = reads_on waits m
would_read_in _ m = false

-- The next action of the machine is a read, or the one after a poll that finds no mail is.
abbrev pub would_read : SeatMachine → Bool
would_read m = would_read_in m.stage m

-- An awaited connection that is opened begins with its connect.
abbrev pub OpensLine : Event → Action → SeatMachine → Type 0
OpensLine events.Opened action new = is_stray action ≡ false → (action ≡ actions.Submit steps.Connect) × AgreesWith new first_past
OpensLine _ action new = Unit {0}

abbrev pub IfLineOver : Action → (LineEnd → Type 0) → Type 0
IfLineOver (actions.LineOver end) P = P end
IfLineOver _ P = Unit {0}

-- With this event and this action, every past that the machine agrees with was served, whatever was
-- written.
abbrev pub ServesAll : SeatMachine → Event → Action → LineEnd → Type 0
ServesAll old event action end =
    (p : Past) → AgreesWith old p → (written : List ℕ) → IsServed old.reader.max_job_size written end (past_after event action p)

-- A move in terms of the machine's fields: the pasts that agree with them continue.
pub record IsStagedMove (old : SeatMachine) (event : Event) (action : Action) (new : SeatMachine) : Type 0 where
  pub stray : is_stray action ≡ not (answers event (awaited old))
  pub unchanged : is_stray action ≡ true → new ≡ old
  pub awaits : is_stray action ≡ false → awaited_by action ≡ Some (awaited new)
  pub limit : new.reader.max_job_size ≡ old.reader.max_job_size
  pub opened : OpensLine event action new
  pub past : (p : Past) → AgreesWith old p → AgreesWith new (past_after event action p)
  pub over : IfLineOver action (ServesAll old event action)
  pub looks : is_stray action ≡ false → (p : Past) → AgreesWith old p → IsNextAction (awaited old) old.kept event p action

-- The reader took these bytes, and this is the request if they complete one.
pub record IsTaken (old new : ReaderState) (bytes : List ℕ) (taken : Taken) (place : Request) : Type 0 where
  pub within : taken.count ≤ length bytes
  pub waits : request_in taken place ≡ None → (text : List ℕ) → Stands old text → Waits new text bytes taken.count
  pub hands_out : IfSome (request_in taken place)
      (λ asked. (text : List ℕ) → Stands old text → HandsRequest new text bytes taken.count asked)
  pub missing : TakesMissing old.place bytes taken.count
  pub limit : new.max_job_size ≡ old.max_job_size

-- the request that an action submits; of no account for other actions
abbrev pub request_of : Action → Request
request_of (actions.Submit (steps.Ask request)) = request
request_of _ = Quit

-- The request is submitted if it is one; otherwise the connection is read.
abbrev pub AsksOrReads : Bool → Request → SeatMachine → Action → SeatMachine → Type 0
AsksOrReads true request old action new = (action ≡ actions.Submit (steps.Ask request)) × (new ≡ in_stage (asking_stage request) old)
AsksOrReads false request old action new = (action ≡ actions.Read) × (new ≡ in_stage stages.Reading old)
