-- What a seat machine does next, determined by the event and the connection's past alone.
use Rattle.std.specs.Prelude.{ℕ, ◌≡◌, Bool, false, not, ◌&&◌, MatchBool, nat_lt, if◌then◌else◌, List, [], ◌∷◌, length, Option, Some, None}
use Rattle.bq_job.specs.declared.answer.Answer.{Answer}
use Rattle.bq_job.specs.declared.request.Request.{Request}
use Rattle.bq_job.specs.declared.request.Request.TheVariants as requests
use Rattle.bq_job.specs.declared.step.Step.{Step}
use Rattle.bq_job.specs.declared.step.Step.TheVariants as steps
use Rattle.bq_job.specs.promise.LineSteps.{ends_by_wait, wanted}
use Rattle.bq_job.specs.machine.OneClient.{is_closed_answer}
use Rattle.bq_seat.specs.Past.{Awaited, Past}
use Rattle.bq_seat.specs.declared.machine.Action.{Action}
use Rattle.bq_seat.specs.declared.machine.Action.TheVariants as actions
use Rattle.bq_seat.specs.declared.machine.Event.{Event}
use Rattle.bq_seat.specs.declared.machine.Event.TheVariants as events

-- the requests that were submitted
abbrev pub asked_in : List Step → List Request
asked_in [] = []
asked_in (steps.Ask request ∷ taken) = request ∷ asked_in taken
asked_in (_ ∷ taken) = asked_in taken

abbrev pub last_step : List Step → Option Step
last_step [] = None
last_step (step ∷ []) = Some step
last_step (step ∷ next ∷ taken) = last_step (next ∷ taken)

-- an answer is outstanding
abbrev pub is_unanswered : Past → Bool
is_unanswered p = nat_lt (length p.mail) (wanted p.steps)

-- The answer to a request that may wait is outstanding, the input has not ended, and no bytes are
-- kept.
abbrev pub is_read_on : List ℕ → Past → Bool
is_read_on [] p = ends_by_wait (asked_in p.steps) && not p.ended
is_read_on (_ ∷ _) p = false

-- No answer is outstanding: the next request is submitted, or the connection is read or closed.
abbrev pub GoesFurther : Action → Type 0
GoesFurther (actions.Submit (steps.Ask request)) = Unit {0}
GoesFurther (actions.Submit steps.Close) = Unit {0}
GoesFurther actions.Read = Unit {0}
GoesFurther _ = ⊥

abbrev pub IsLineOver : Action → Type 0
IsLineOver (actions.LineOver end) = Unit {0}
IsLineOver _ = ⊥

-- After a quit the connection is closed. After any other step except the connect, the machine polls
-- for the step's answer.
abbrev pub IsNextAfterStep : Option Step → Action → Type 0
IsNextAfterStep (Some steps.Connect) action = GoesFurther action
IsNextAfterStep (Some (steps.Ask requests.Quit)) action = action ≡ actions.Submit steps.Close
IsNextAfterStep _ action = action ≡ actions.PollMail

-- If there was nothing to read, the mail is polled if an answer is outstanding. If there was no
-- mail, it is polled again, except that the connection is read first while a reserve waits.
abbrev pub IsNextAfterNothing : Awaited → List ℕ → Past → Action → Type 0
IsNextAfterNothing Awaited.AReading kept p action = action ≡ (if is_unanswered p then actions.PollMail else actions.Read)
IsNextAfterNothing Awaited.AMail kept p action = action ≡ (if not p.closing && is_read_on kept p then actions.Read else actions.PollMail)
IsNextAfterNothing _ kept p action = ⊥

-- After the close, the mail is polled until the answer to the close ends the connection; other mail
-- is dropped.
abbrev pub IsNextAfterClose : Answer → Action → Type 0
IsNextAfterClose answer action = MatchBool (is_closed_answer answer) (IsLineOver action) (action ≡ actions.PollMail)

-- The awaited event happened to a connection with this past, while these bytes were kept.
abbrev pub IsNextAction : Awaited → List ℕ → Event → Past → Action → Type 0
IsNextAction what kept events.Opened p action = action ≡ actions.Submit steps.Connect
IsNextAction what kept events.Submitted p action = IsNextAfterStep (last_step p.steps) action
IsNextAction what kept (events.Bytes bytes) p action = MatchBool (is_unanswered p) (action ≡ actions.PollMail) (GoesFurther action)
IsNextAction what kept events.NothingYet p action = IsNextAfterNothing what kept p action
IsNextAction what kept events.EndOfInput p action = action ≡ actions.Submit (if is_unanswered p then steps.End else steps.Close)
IsNextAction what kept events.ReadFault p action = action ≡ actions.Submit steps.Close
IsNextAction what kept (events.Mail answer) p action = MatchBool p.closing (IsNextAfterClose answer action) (action ≡ actions.Write answer)
IsNextAction what kept events.WriteDone p action = GoesFurther action
IsNextAction what kept events.WriteFault p action = action ≡ actions.Submit steps.Close
