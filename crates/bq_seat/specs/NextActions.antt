-- What the place for a seat's next action has.
use Rattle.std.specs.Prelude.{◌≡◌, Bool, true, false}
use Rattle.bq_job.specs.beside.StepBody.{has_body}
use Rattle.bq_job.specs.declared.answer.Answer.{Answer}
use Rattle.bq_job.specs.declared.answer.Answer.TheVariants as answers
use Rattle.bq_job.specs.declared.step.Step.{Step}
use Rattle.bq_job.specs.declared.step.Step.TheVariants as steps
use Rattle.bq_seat.specs.declared.machine.Action.{Action}
use Rattle.bq_seat.specs.declared.machine.Action.TheVariants as actions
use Rattle.bq_seat.specs.declared.next_action.Does.{Does}
use Rattle.bq_seat.specs.declared.next_action.Does.TheVariants as does

-- the action that does this, with this step or this answer
abbrev pub action_of : Does → Step → Answer → Action
action_of does.Submit step answer = actions.Submit step
action_of does.Read step answer = actions.Read
action_of does.PollMail step answer = actions.PollMail
action_of does.Write step answer = actions.Write answer
action_of (does.LineOver end) step answer = actions.LineOver end
action_of does.Stray step answer = actions.Stray

abbrev pub does_of : Action → Does
does_of (actions.Submit step) = does.Submit
does_of actions.Read = does.Read
does_of actions.PollMail = does.PollMail
does_of (actions.Write answer) = does.Write
does_of (actions.LineOver end) = does.LineOver end
does_of actions.Stray = does.Stray

-- This is what the action does.
abbrev pub IsDoing : Does → Action → Type 0
IsDoing does.Submit action = (step : Step) × (action ≡ actions.Submit step)
IsDoing does.Read action = action ≡ actions.Read
IsDoing does.PollMail action = action ≡ actions.PollMail
IsDoing does.Write action = (answer : Answer) × (action ≡ actions.Write answer)
IsDoing (does.LineOver end) action = action ≡ actions.LineOver end
IsDoing does.Stray action = action ≡ actions.Stray

-- an answer with a body or a text of its own memory
abbrev pub owns_text : Answer → Bool
owns_text (answers.Reserved id body) = true
owns_text (answers.Found id body) = true
owns_text (answers.Ok text) = true
owns_text _ = false

-- Neither owns memory.
abbrev pub OwnNone : Step → Answer → Type 0
OwnNone step answer = (has_body step ≡ false) × (owns_text answer ≡ false)

-- Only what the action carries may own memory.
abbrev pub OwnsOnlyIts : Does → Step → Answer → Type 0
OwnsOnlyIts does.Submit step answer = owns_text answer ≡ false
OwnsOnlyIts does.Write step answer = has_body step ≡ false
OwnsOnlyIts _ step answer = OwnNone step answer

-- It needs neither a step nor an answer.
abbrev pub carries_none : Does → Bool
carries_none does.Submit = false
carries_none does.Write = false
carries_none _ = true

-- the action that does this, if it needs neither
abbrev pub plain_action : Does → Action
plain_action does.Read = actions.Read
plain_action does.PollMail = actions.PollMail
plain_action (does.LineOver end) = actions.LineOver end
plain_action _ = actions.Stray

abbrev pub is_ask : Step → Bool
is_ask (steps.Ask request) = true
is_ask _ = false

-- the action with this step in place of its own, if it submits one
abbrev pub with_step : Action → Step → Action
with_step (actions.Submit step) other = actions.Submit other
with_step action other = action
