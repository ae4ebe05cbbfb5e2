-- The result of carrying out an action: which event it was, and what the connection and the link
-- did.
use Rattle.std.specs.Prelude.{ℕ, true, ◌≡◌, ◌⊎◌, List, [], ◌∷◌, ◌++◌}
use Rattle.bq_job.specs.declared.answer.Answer.{Answer}
use Rattle.bq_job.specs.declared.step.Step.{Step}
use Rattle.bq_job.specs.texts.AnswerText.{answer_text}
use Rattle.bq_job.specs.promise.LineSteps.{LineSeen}
use Rattle.bq_job.specs.declared.line_end.LineFault.TheVariants as faults
use Rattle.bq_line.specs.Links.{as_submitted}
use Rattle.bq_line.specs.declared.attendant.Progress.{Progress}
use Rattle.bq_line.specs.declared.attendant.Progress.TheVariants as results
use Rattle.bq_line.specs.LineCalls.{with_line_fault}
use Rattle.bq_line.specs.Streams.{StaysOver, StreamSeen}
use Rattle.bq_seat.specs.SeatMoves.{IsMove}
use Rattle.bq_line.specs.Writing.{BreaksOff, with_begun, with_written}
use Rattle.bq_seat.specs.declared.machine.Action.{Action}
use Rattle.bq_seat.specs.declared.machine.Action.TheVariants as actions
use Rattle.bq_seat.specs.declared.machine.Event.{Event}
use Rattle.bq_seat.specs.declared.machine.Event.TheVariants as events
use Rattle.bq_seat.specs.declared.machine.SeatMachine.{SeatMachine}

-- the result of one read of a connection
abbrev pub IsReadAs : Progress → LineSeen → Event → LineSeen → Type 0
IsReadAs results.Moved seen (events.Bytes piece) later = later ≡ record seen { read = seen.read ++ piece.now }
IsReadAs results.Moved seen events.EndOfInput later = later ≡ record seen { ended = true }
IsReadAs results.NoBytes seen events.NothingYet later = later ≡ seen
IsReadAs results.Moved seen events.ReadFault later = later ≡ with_line_fault faults.Read seen
IsReadAs _ seen _ later = ⊥

-- The step was submitted, or it was not accepted and the action stays as it is.
abbrev pub IsSubmittedAs : Progress → SeatMachine → Step → SeatMachine → Action → List Step → Type 0
IsSubmittedAs results.Moved old step new next submitted = (submitted ≡ as_submitted step) × IsMove old events.Submitted next new
IsSubmittedAs results.NotAccepted old step new next submitted = (submitted ≡ []) × (next ≡ actions.Submit step) × (new ≡ old)
IsSubmittedAs _ old step new next submitted = ⊥

-- An answer was taken, or none had come.
abbrev pub IsPolledAs : Progress → SeatMachine → SeatMachine → Action → List Answer → Type 0
IsPolledAs results.Moved old new next taken = (answer : Answer) × (taken ≡ answer ∷ []) × IsMove old (events.Mail answer) next new
IsPolledAs results.NoMail old new next taken = (taken ≡ []) × IsMove old events.NothingYet next new
IsPolledAs _ old new next taken = ⊥

-- The rest of the answer was written or cut off, or a part of it was written or there was no room,
-- and the action stays as it is.
abbrev pub IsWrittenAs : Progress → SeatMachine → LineSeen → Answer → SeatMachine → LineSeen → Action → Type 0
IsWrittenAs results.Moved old seen answer new later next =
    ((later ≡ with_written (answer_text answer) seen) × IsMove old events.WriteDone next new)
    ⊎ (BreaksOff (answer_text answer) seen later × IsMove old events.WriteFault next new)
IsWrittenAs results.Part old seen answer new later next = (later ≡ seen) × (next ≡ actions.Write answer) × (new ≡ old)
IsWrittenAs results.NoRoom old seen answer new later next = (later ≡ seen) × (next ≡ actions.Write answer) × (new ≡ old)
IsWrittenAs _ old seen answer new later next = ⊥

-- There was nothing to carry out, and nothing was done.
pub record IsLeft (result : Progress) (old : SeatMachine) (seen : LineSeen) (action : Action) (new : SeatMachine) (later : LineSeen)
    (next : Action) (submitted : List Step) (taken : List Answer) : Type 0 where
  pub result_is : result ≡ results.NothingToDo
  pub machine : new ≡ old
  pub line : later ≡ seen
  pub action_is : next ≡ action
  pub none_submitted : submitted ≡ []
  pub none_taken : taken ≡ []

-- The action was carried out with this result, and `next` is the next one. These steps were
-- submitted, and these answers taken.
abbrev pub Carried : Progress → SeatMachine → LineSeen → Action → SeatMachine → LineSeen → Action → List Step → List Answer → Type 0
Carried result old seen (actions.Submit step) new later next submitted taken =
    (later ≡ seen) × (taken ≡ []) × IsSubmittedAs result old step new next submitted
Carried result old seen actions.Read new later next submitted taken =
    (submitted ≡ []) × (taken ≡ []) × ((event : Event) × IsReadAs result seen event later × IsMove old event next new)
Carried result old seen actions.PollMail new later next submitted taken =
    (later ≡ seen) × (submitted ≡ []) × IsPolledAs result old new next taken
Carried result old seen (actions.Write answer) new later next submitted taken =
    (submitted ≡ []) × (taken ≡ []) × IsWrittenAs result old seen answer new later next
Carried result old seen (actions.LineOver end) new later next submitted taken =
    IsLeft result old seen (actions.LineOver end) new later next submitted taken
Carried result old seen actions.Stray new later next submitted taken =
    IsLeft result old seen actions.Stray new later next submitted taken

-- A seat read its connection with this result. The connection lies over the same stream.
abbrev pub ReadsLine : {L : Type 0} → (L → LineSeen) → (StreamSeen → L → Type 0) → Progress → SeatMachine → L → SeatMachine → L → Action
    → Type 0
ReadsLine seen lies_over result old line new later next =
    Carried result old (seen line) actions.Read new (seen later) next [] [] × StaysOver lies_over line later

-- What a connection records while this action is carried out: if the action writes an answer,
-- `sent` bytes of it are written.
abbrev pub with_part : Action → ℕ → LineSeen → LineSeen
with_part (actions.Write answer) sent line = with_begun (answer_text answer) sent line
with_part _ sent line = line

-- The results that an action can have.
abbrev pub CanEnd : Progress → Action → Type 0
CanEnd result (actions.Submit step) = (result ≡ results.Moved) ⊎ (result ≡ results.NotAccepted)
CanEnd result actions.Read = (result ≡ results.Moved) ⊎ (result ≡ results.NoBytes)
CanEnd result actions.PollMail = (result ≡ results.Moved) ⊎ (result ≡ results.NoMail)
CanEnd result (actions.Write answer) = (result ≡ results.Moved) ⊎ (result ≡ results.NoRoom) ⊎ (result ≡ results.Part)
CanEnd result (actions.LineOver end) = result ≡ results.NothingToDo
CanEnd result actions.Stray = result ≡ results.NothingToDo

-- What a result says about an action: the action can have it, and unless something moved, nothing
-- was submitted or taken.
pub record EndsAs (result : Progress) (action : Action) (submitted : List Step) (taken : List Answer) : Type 0 where
  pub can_end : CanEnd result action
  pub still : (result ≡ results.Moved → ⊥) → (submitted ≡ []) × (taken ≡ [])

-- Only a submission and a check of the mail submit or take anything.
abbrev pub MayCall : Action → List Step → List Answer → Type 0
MayCall (actions.Submit step) submitted taken = Unit {0}
MayCall actions.PollMail submitted taken = Unit {0}
MayCall _ submitted taken = (submitted ≡ []) × (taken ≡ [])

-- The action was carried out, or a further part of it. `first` and `last` are what the connection
-- recorded before and after, not counting an answer of which only a part is written.
abbrev pub CarriesOn : Progress → SeatMachine → LineSeen → Action → ℕ → SeatMachine → LineSeen → Action → ℕ → List Step → List Answer
    → Type 0
CarriesOn result old seen action sent new later next now submitted taken =
    (first : LineSeen) → seen ≡ with_part action sent first
    → (last : LineSeen) × (later ≡ with_part next now last) × Carried result old first action new last next submitted taken

-- The same, with what the result says, and what may have been submitted and taken.
abbrev pub CarriedPart : Progress → SeatMachine → LineSeen → Action → ℕ → SeatMachine → LineSeen → Action → ℕ → List Step → List Answer
    → Type 0
CarriedPart result old seen action sent new later next now submitted taken =
    EndsAs result action submitted taken × MayCall action submitted taken
    × CarriesOn result old seen action sent new later next now submitted taken

-- Only a submission and a check of the mail use the link; otherwise it is unchanged.
abbrev pub HasGone : {K : Type 0} → (K → List Step → List Answer → K → Type 0) → K → Action → List Step → List Answer → K → Type 0
HasGone trace old (actions.Submit step) submitted taken new = trace old submitted taken new
HasGone trace old actions.PollMail submitted taken new = trace old submitted taken new
HasGone trace old _ submitted taken new = new ≡ old
