-- How a seat submits a step and takes the answer in one call.
use Rattle.std.specs.Prelude.{◌≡◌, ◌⊎◌, List, []}
use Rattle.bq_job.specs.declared.answer.Answer.{Answer}
use Rattle.bq_job.specs.declared.step.Step.{Step}
use Rattle.bq_line.specs.Carried.{IsPolledAs, IsSubmittedAs}
use Rattle.bq_line.specs.Links.{TakesNone, TakesOne}
use Rattle.bq_line.specs.declared.attendant.Progress.{Progress}
use Rattle.bq_line.specs.declared.attendant.Progress.TheVariants as results
use Rattle.bq_seat.specs.SeatMoves.{IsAnswered, IsMove}
use Rattle.bq_seat.specs.declared.machine.Action.{Action}
use Rattle.bq_seat.specs.declared.machine.Action.TheVariants as actions
use Rattle.bq_seat.specs.declared.machine.Event.TheVariants as events
use Rattle.bq_seat.specs.declared.machine.SeatMachine.{SeatMachine}

-- The step was submitted or was not accepted, and no answer was taken.
abbrev pub HasSubmitted : {K : Type 0} → (K → List Step → List Answer → K → Type 0) → K → K → Progress → SeatMachine → Step → SeatMachine
    → Action → Type 0
HasSubmitted trace first last result old step new next =
    (submitted : List Step) × trace first submitted [] last × IsSubmittedAs result old step new next submitted

-- The step was submitted, and the seat waits for the answer if there will be one. Or the answer to a request was taken at once.
abbrev pub TakesOrWaits : {K : Type 0} → (K → List Step → List Answer → K → Type 0) → K → K → SeatMachine → SeatMachine → Action → Type 0
TakesOrWaits trace first last old new next =
    (IsMove old events.Submitted next new × TakesNone trace first last)
    ⊎ ((answer : Answer) × IsAnswered old answer next new × TakesOne trace first answer last)

-- The step was submitted or was not accepted. Or it was submitted, and then the answer was taken.
abbrev pub IsSubmittedOn : Progress → SeatMachine → Step → SeatMachine → Action → List Step → List Answer → Type 0
IsSubmittedOn result old step new next submitted taken =
    ((taken ≡ []) × IsSubmittedAs result old step new next submitted)
    ⊎ ((result ≡ results.Moved) × (between : SeatMachine) × IsSubmittedAs results.Moved old step between actions.PollMail submitted
    × IsPolledAs results.Moved between new next taken)

abbrev pub HasSubmittedOn : {K : Type 0} → (K → List Step → List Answer → K → Type 0) → K → K → Progress → SeatMachine → Step
    → SeatMachine → Action → Type 0
HasSubmittedOn trace first last result old step new next =
    (submitted : List Step) × (taken : List Answer) × trace first submitted taken last
    × IsSubmittedOn result old step new next submitted taken
