-- What happened at a core with its clock and the mail of its seats: the core took steps, and answers
-- were taken out.
use Rattle.std.specs.Prelude.{ℕ, ◌≡◌, ◌≢◌, ◌<◌, List, [], ◌++◌, length, Option}
use Rattle.bq_job.specs.declared.answer.Answer.{Answer}
use Rattle.bq_job.specs.declared.step.Step.{Step}
use Rattle.bq_job.specs.machine.Dispatch.{GivenAnswer}
use Rattle.bq_job.specs.promise.History.{IsTimedFrom, steps_at}
use Rattle.bq_job.specs.promise.Runs.{Entry, Run, answers_to}
use Rattle.bq_line.specs.GivenReadings.{GaveReadings}
use Rattle.bq_host.specs.Clocks.{Gives}
use Rattle.bq_host.specs.MailStates.{MailState, timed_of, waiting}
use Rattle.bq_host.specs.TimedRuns.{Compares}

-- The core took the steps of this history at moments of these readings, within its bounds of comparisons, and at each seat these
-- answers were taken out.
pub record CoreTrace (first : MailState) (readings : List (Option ℕ)) (history : List Entry)
    (taken : ℕ → List Answer) (last : MailState) : Type 0 where
  pub given : List GivenAnswer
  pub runs : Run first.core history given last.core
  pub timed : IsTimedFrom first.heard readings history last.heard
  pub many : length last.mails ≡ length first.mails
  pub tied : (seat : ℕ) → seat < length first.mails → waiting seat first ++ answers_to seat given ≡ taken seat ++ waiting seat last
  pub compared : Compares (timed_of first) history given (timed_of last)

-- The same as one seat sees it: it alone submitted these steps and took these answers.
pub record SeatTrace (seat : ℕ) (first : MailState) (readings : List (Option ℕ))
    (submitted : List Step) (taken : List Answer) (last : MailState) : Type 0 where
  pub history : List Entry
  pub took : ℕ → List Answer
  pub trace : CoreTrace first readings history took last
  pub submitted_is : steps_at seat history ≡ submitted
  pub taken_is : took seat ≡ taken
  pub others_still : (other : ℕ) → other ≢ seat → steps_at other history ≡ []
  pub others_took : (other : ℕ) → other ≢ seat → took other ≡ []

-- The same with a clock, which gave the readings.
abbrev pub SeatTraceBy : {C : Type 0} → Gives C → ℕ → C → MailState → List Step → List Answer → C → MailState → Type 0
SeatTraceBy given seat clock first submitted taken later last =
    (readings : List (Option ℕ)) × GaveReadings given clock readings later × SeatTrace seat first readings submitted taken last
