-- How the history of a run relates to the ends of its links.
use Rattle.std.specs.Prelude.{ℕ, ◌≡◌, ◌+◌, ◌<◌, List, ◌++◌, length, map, slice_index_or}
use Rattle.bq_job.specs.declared.step.Step.{Step}
use Rattle.bq_job.specs.machine.Dispatch.{GivenAnswer}
use Rattle.bq_job.specs.promise.History.{steps_at, without_ticks}
use Rattle.bq_job.specs.promise.Runs.{Entry, answers_to}
use Rattle.bq_link.specs.EndStates.{CoreState, IsPair, IsSameCore, IsSameSeat, SeatState, sent_to}
use Rattle.bq_link.specs.Submissions.{steps_of}
use Rattle.bq_link.specs.Ticks.{IsTickless}

-- Each end has its place as its number, and was created by the same call of `links` as the core's
-- end.
abbrev pub ArePaired : CoreState → List SeatState → Type 0
ArePaired core seats = (place : ℕ) (d : SeatState) → place < length seats
    → ((slice_index_or seats place d).number ≡ place) × IsPair core (slice_index_or seats place d)

-- The core's end took no step and sent no answer.
pub record IsCoreStill (first last : CoreState) : Type 0 where
  pub same : IsSameCore first last
  pub taken : last.taken ≡ first.taken
  pub sent : last.sent ≡ first.sent

-- It is the same end, and it submitted no step and took no answer.
abbrev pub IsEndStill : SeatState → SeatState → Type 0
IsEndStill first last = IsSameSeat first last × (last.submitted ≡ first.submitted) × (last.taken ≡ first.taken)

-- the same for all ends
pub record AreStill (first last : List SeatState) : Type 0 where
  pub many : length last ≡ length first
  pub each : (place : ℕ) (d : SeatState) → place < length first → IsEndStill (slice_index_or first place d) (slice_index_or last place d)

-- An end whose thread has ended, compared with the core's end. None of its steps was a tick, and
-- they are those that the core took and others that wait. The answers that it took and those that
-- wait for it are the ones that the core sent to it.
pub record IsSettled (core : CoreState) (place : ℕ) (seat : SeatState) : Type 0 where
  pub number : seat.number ≡ place
  pub pair : IsPair core seat
  pub waiting : List (ℕ × Step)
  pub tickless : IsTickless (core.taken ++ waiting)
  pub submitted_is : seat.submitted ≡ steps_of place core.taken ++ steps_of place waiting
  pub sent_is : seat.taken ++ seat.waiting ≡ sent_to core place

-- all ends, in the order of their numbers
abbrev pub AreSettled : CoreState → List SeatState → Type 0
AreSettled core seats = (place : ℕ) (d : SeatState) → place < length seats → IsSettled core place (slice_index_or seats place d)

-- The steps of the history at this seat are those that the end submitted. The answers that the run
-- gave to the end were sent to it, and it took them or they wait.
pub record IsEndOf (history : List Entry) (given : List GivenAnswer) (core : CoreState) (place : ℕ) (seat : SeatState) : Type 0 where
  pub number : seat.number ≡ place
  pub pair : IsPair core seat
  pub submitted_is : steps_at place history ≡ seat.submitted
  pub given_is : answers_to place given ≡ sent_to core place
  pub sent_is : sent_to core place ≡ seat.taken ++ seat.waiting

-- The ends of this many seats, the end of the control line and the core's end, after a run along
-- this history. Without ticks, the history has the steps that the core took, in order.
pub record IsLinked (seats : ℕ) (history : List Entry) (given : List GivenAnswer) (core : CoreState) (ends : List SeatState) : Type 0 where
  pub many : length ends ≡ seats + 1
  pub taken_is : map (λ e. (e.seat, e.what)) (without_ticks history) ≡ core.taken
  pub each : (place : ℕ) (d : SeatState) → place < length ends → IsEndOf history given core place (slice_index_or ends place d)
