-- What has happened at a connection since it was opened.
use Rattle.std.specs.Prelude.{ℕ, ◌≡◌, Bool, true, false, ◌||◌, if◌then◌else◌, List, [], ◌∷◌, ◌++◌, length, Option, Some, None, is_some}
use Rattle.std.specs.List.{list_any}
use Rattle.bq_job.specs.declared.answer.Answer.{Answer}
use Rattle.bq_job.specs.declared.line_end.LineFault.{LineFault}
use Rattle.bq_job.specs.declared.line_end.LineFault.TheVariants as faults
use Rattle.bq_job.specs.declared.step.Step.{Step}
use Rattle.bq_job.specs.declared.step.Step.TheVariants as steps
use Rattle.bq_seat.specs.declared.machine.Event.{Event}
use Rattle.bq_seat.specs.declared.machine.Event.TheVariants as events
use Rattle.bq_seat.specs.declared.machine.Action.{Action}
use Rattle.bq_seat.specs.declared.machine.Action.TheVariants as actions

pub record Past : Type 0 where
  -- the bytes that were read
  pub bytes : List ℕ
  -- the steps that were submitted, and whether the close is among them
  pub steps : List Step
  pub closing : Bool
  -- the answers that came before the close was submitted, and those that came after it
  pub mail : List Answer
  pub late_mail : List Answer
  -- the answers that were given for writing
  pub written : List Answer
  -- whether the client sends no more
  pub ended : Bool
  -- the first fault, and how many answers had been given for writing when it came
  pub fault : Option LineFault
  pub written_at_fault : ℕ

-- nothing happened
abbrev pub no_past : Past
no_past = record {
  bytes = [];
  steps = [];
  closing = false;
  mail = [];
  late_mail = [];
  written = [];
  ended = false;
  fault = None;
  written_at_fault = 0;
}

abbrev pub with_mail : Answer → Past → Past
with_mail answer p =
    if p.closing then record p { late_mail = p.late_mail ++ answer ∷ [] } else record p { mail = p.mail ++ answer ∷ [] }

abbrev pub with_fault : LineFault → Past → Past
with_fault fault p = if is_some p.fault then p else record p { fault = Some fault; written_at_fault = length p.written }

-- The event happened. A newly opened connection starts a past of its own.
abbrev pub with_event : Event → Past → Past
with_event events.Opened p = no_past
with_event (events.Bytes bytes) p = record p { bytes = p.bytes ++ bytes.now }
with_event events.EndOfInput p = record p { ended = true }
with_event events.ReadFault p = with_fault faults.Read p
with_event (events.Mail answer) p = with_mail answer p
with_event events.WriteFault p = with_fault faults.Write p
with_event _ p = p

abbrev pub is_close : Step → Bool
is_close steps.Close = true
is_close _ = false

abbrev pub has_close : List Step → Bool
has_close taken = list_any is_close taken

-- the action was given
abbrev pub with_action : Action → Past → Past
with_action (actions.Submit step) p = record p { steps = p.steps ++ step ∷ []; closing = p.closing || is_close step }
with_action (actions.Write answer) p = record p { written = p.written ++ answer ∷ [] }
with_action _ p = p

abbrev pub is_stray : Action → Bool
is_stray actions.Stray = true
is_stray _ = false

-- The event happened, and the machine answered with this action. A stray event changes nothing.
abbrev pub past_after : Event → Action → Past → Past
past_after event action p = if is_stray action then p else with_action action (with_event event p)

-- a connection was opened, and its connect is being submitted
abbrev pub first_past : Past
first_past = past_after events.Opened (actions.Submit steps.Connect) no_past

-- The close is among the steps if and only if the past says so, and no mail was late before it.
pub record IsOrderly (p : Past) : Type 0 where
  pub closing : p.closing ≡ has_close p.steps
  pub late : p.closing ≡ false → p.late_mail ≡ []

-- what a machine awaits after it has given an action
pub data Awaited : Type 0 where
  -- that a connection is opened
  ALine : Awaited
  -- that a step was submitted
  ASubmission : Awaited
  -- the result of a read of the connection
  AReading : Awaited
  -- the result of polling the mail
  AMail : Awaited
  -- the result of a write to the connection
  AWriting : Awaited

-- what answers the action; a stray action awaits nothing
abbrev pub awaited_by : Action → Option Awaited
awaited_by (actions.Submit step) = Some Awaited.ASubmission
awaited_by actions.Read = Some Awaited.AReading
awaited_by actions.PollMail = Some Awaited.AMail
awaited_by (actions.Write answer) = Some Awaited.AWriting
awaited_by (actions.LineOver end) = Some Awaited.ALine
awaited_by actions.Stray = None

-- the event is one of those that are awaited
abbrev pub answers : Event → Awaited → Bool
answers events.Opened Awaited.ALine = true
answers events.Submitted Awaited.ASubmission = true
answers (events.Bytes bytes) Awaited.AReading = true
answers events.NothingYet Awaited.AReading = true
answers events.EndOfInput Awaited.AReading = true
answers events.ReadFault Awaited.AReading = true
answers events.NothingYet Awaited.AMail = true
answers (events.Mail answer) Awaited.AMail = true
answers events.WriteDone Awaited.AWriting = true
answers events.WriteFault Awaited.AWriting = true
answers _ _ = false
