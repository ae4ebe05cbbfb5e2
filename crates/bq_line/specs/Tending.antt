-- A seat that attends to a door, and what it does at each of its turns.
use Rattle.std.specs.Prelude.{ℕ, ◌≡◌, ◌⊎◌, Bool, true, false, List, [], ◌∷◌, ◌++◌, None, ◌≤◌, ◌+◌, length}
use Rattle.std.specs.List.{All, AllZip}
use Rattle.bq_job.specs.declared.answer.Answer.{Answer}
use Rattle.bq_job.specs.declared.step.Step.{Step}
use Rattle.bq_job.specs.declared.step.Step.TheVariants.{Gone}
use Rattle.bq_job.specs.promise.History.{LineOver}
use Rattle.bq_job.specs.promise.LineSteps.{LineSeen}
use Rattle.bq_job.specs.beside.SeatDid.{AreLinesServed, IsSeatDone}
use Rattle.bq_job.specs.machine.OneClient.{has_closed}
use Rattle.bq_seat.specs.Past.{Awaited}
use Rattle.bq_seat.specs.SeatStands.{awaited}
use Rattle.bq_seat.specs.declared.machine.SeatMachine.{SeatMachine}
use Rattle.bq_line.specs.Attending.{IsAt}
use Rattle.bq_line.specs.Carried.{CanEnd}
use Rattle.bq_line.specs.Links.{Calls, as_submitted}
use Rattle.bq_line.specs.Streams.{IsSureLine, StaysOver, StreamSeen}
use Rattle.bq_line.specs.declared.attendant.Attendant.{Attendant}
use Rattle.bq_line.specs.declared.attendant.SeatPhase.{SeatPhase}
use Rattle.bq_line.specs.declared.attendant.SeatPhase.TheVariants as phases
use Rattle.bq_line.specs.declared.attendant.Progress.{Progress}
use Rattle.bq_line.specs.declared.attendant.Progress.TheVariants as results
use Rattle.bq_line.specs.declared.door.Door.{Ghosts as Door}
use Rattle.bq_seat.specs.declared.machine.Action.{Action}
use Rattle.bq_seat.specs.declared.machine.Action.TheVariants as actions

abbrev pub attendant : {L : Type 0} → SeatMachine → SeatPhase L → Attendant L
attendant machine phase = record { machine = machine; phase = phase }

-- what a door records
pub record DoorSeen : Type 0 where
  pub is_out : Bool
  pub is_at_end : Bool
  pub lines_over : List LineOver

-- the same, by what the trait Door means for it
abbrev pub door_seen : {D L : Type 0} → Door D L → D → DoorSeen
door_seen d door = record { is_out = d.is_out door; is_at_end = d.is_at_end door; lines_over = d.lines_over door }

-- No connection was opened, and more may come.
pub record IsNewDoor (door : DoorSeen) : Type 0 where
  pub inside : door.is_out ≡ false
  pub more : door.is_at_end ≡ false
  pub none_over : door.lines_over ≡ []

-- A connection is open if and only if the seat is on it. A door has ended once its seat leaves.
abbrev pub IsPlaced : {L : Type 0} → SeatPhase L → DoorSeen → Type 0
IsPlaced phases.Between door = (door.is_out ≡ false) × (door.is_at_end ≡ false)
IsPlaced (phases.On line action sent) door = (door.is_out ≡ true) × (door.is_at_end ≡ false)
IsPlaced phases.Leaving door = (door.is_out ≡ false) × (door.is_at_end ≡ true)
IsPlaced phases.Done door = (door.is_out ≡ false) × (door.is_at_end ≡ true)

-- What a seat has done so far: it submitted these steps and took these answers, for the connections
-- that have ended and then for the open one. Its door is in the matching state.
pub record IsTended {L : Type 0} (seen : L → LineSeen) (max_job_size : ℕ) (a : Attendant L) (door : DoorSeen)
    (submitted : List Step) (taken : List Answer) : Type 0 where
  pub before : List Step
  pub now : List Step
  pub got : List Answer
  pub getting : List Answer
  pub of_lines : AreLinesServed max_job_size door.lines_over before got
  pub at_phase : IsAt seen max_job_size a.machine a.phase now getting
  pub submitted_is : submitted ≡ before ++ now
  pub taken_is : taken ≡ got ++ getting
  pub placed : IsPlaced a.phase door

-- one if the action ends the connection, which was closed then
abbrev pub over_by : Action → ℕ
over_by (actions.LineOver end) = 1
over_by _ = 0

abbrev pub polls_by : Action → Bool
polls_by actions.PollMail = true
polls_by _ = false

-- one if the seat's connection has ended, but was not shut yet
abbrev pub over_now : {L : Type 0} → SeatPhase L → ℕ
over_now (phases.On line action sent) = over_by action
over_now _ = 0

-- whether the seat checks its mail next
abbrev pub is_polling : {L : Type 0} → SeatPhase L → Bool
is_polling (phases.On line action sent) = polls_by action
is_polling _ = false

-- whether the seat submits a step next, which may be that no more connections come
abbrev pub is_submitting : {L : Type 0} → SeatPhase L → Bool
is_submitting (phases.On line (actions.Submit step) sent) = true
is_submitting phases.Leaving = true
is_submitting _ = false

-- whether the seat writes an answer next
abbrev pub is_writing : {L : Type 0} → SeatPhase L → Bool
is_writing (phases.On line (actions.Write answer) sent) = true
is_writing _ = false

-- how many connections have ended at a seat
abbrev pub ended_lines : {L : Type 0} → Attendant L → DoorSeen → ℕ
ended_lines a door = length door.lines_over + over_now a.phase

-- No connection that has ended is forgotten. If the seat checks its mail next, it took no `Closed`
-- now: the first one after a close ends the connection, and an earlier one would be written.
pub record IsCounted {L : Type 0} (old : Attendant L) (at_old : DoorSeen) (taken : List Answer) (new : Attendant L)
    (at_new : DoorSeen) : Type 0 where
  pub grows : ended_lines old at_old ≤ ended_lines new at_new
  pub unclosed : is_polling new.phase ≡ true → has_closed taken ≡ false

-- Whatever the seat did before, it continued with these steps and answers.
abbrev pub Tends : {L : Type 0} → (L → LineSeen) → Attendant L → DoorSeen → List Step → List Answer → Attendant L → DoorSeen → Type 0
Tends seen old at_old submitted taken new at_new =
    (max_job_size : ℕ) (before : List Step) (got : List Answer) → IsTended seen max_job_size old at_old before got
    → IsTended seen max_job_size new at_new (before ++ submitted) (got ++ taken) × IsCounted old at_old taken new at_new

-- A seat and its link continued.
abbrev pub GoesOn : {K L : Type 0} → (K → List Step → List Answer → K → Type 0) → K → K → (L → LineSeen)
    → Attendant L → DoorSeen → Attendant L → DoorSeen → Type 0
GoesOn trace first last seen old at_old new at_new =
    (submitted : List Step) × (taken : List Answer) × Calls trace first submitted taken last
    × Tends seen old at_old submitted taken new at_new

-- A connection that stays open stays over its stream. So if the stream may not fail, the seat meets no
-- fault on it.
abbrev pub StaysOpenOver : {L : Type 0} → (StreamSeen → L → Type 0) → SeatPhase L → SeatPhase L → Type 0
StaysOpenOver lies_over (phases.On line action sent) (phases.On later next now) = StaysOver lies_over line later
StaysOpenOver lies_over _ _ = Unit {0}

-- The connection that is open, if there is one, is over a stream that may not fail.
abbrev pub IsSureAt : {L : Type 0} → (StreamSeen → L → Type 0) → SeatPhase L → Type 0
IsSureAt lies_over (phases.On line action sent) = IsSureLine lies_over line
IsSureAt lies_over _ = Unit {0}

-- None of the connections that have ended met a fault, and the open one can't meet one.
pub record AreSure {L : Type 0} (lies_over : StreamSeen → L → Type 0) (phase : SeatPhase L) (lines_over : List LineOver) : Type 0 where
  pub ended : All (λ (line : LineOver). line.seen.fault ≡ None) lines_over
  pub at_phase : IsSureAt lies_over phase

-- If the streams of a door may not fail, and no connection of it met a fault so far, then none has met
-- one yet.
abbrev pub StaysSure : {L D : Type 0} → (StreamSeen → L → Type 0) → (D → List LineOver) → (D → Bool) → SeatPhase L → D → SeatPhase L → D
    → Type 0
StaysSure lies_over lines_over may_fail phase door next later =
    may_fail door ≡ false → AreSure lies_over phase (lines_over door) → AreSure lies_over next (lines_over later)

-- The results that an action of a seat in this phase can have.
abbrev pub MayEndAt : {L : Type 0} → Progress → SeatPhase L → Type 0
MayEndAt result phases.Between = result ≡ results.Moved
MayEndAt result (phases.On line (actions.LineOver end) sent) = result ≡ results.Moved
MayEndAt result (phases.On line action sent) = CanEnd result action
MayEndAt result phases.Leaving = (result ≡ results.Moved) ⊎ (result ≡ results.NotAccepted)
MayEndAt result phases.Done = result ≡ results.NothingToDo

-- A connection that was to be opened is open, or no more come. One that has ended is shut. If the
-- seat has submitted that no more come, it is done.
abbrev pub MovesAt : {L : Type 0} → Progress → SeatPhase L → SeatPhase L → Type 0
MovesAt result phases.Between next = next ≡ phases.Between → ⊥
MovesAt result (phases.On line (actions.LineOver end) sent) next = next ≡ phases.Between
MovesAt results.Moved phases.Leaving next = next ≡ phases.Done
MovesAt result _ next = Unit {0}

-- The step of this action was submitted, or an answer was taken, if the result says that something moved.
abbrev pub Uses : {K : Type 0} → (K → List Step → List Answer → K → Type 0) → Progress → K → Action → K → Type 0
Uses trace results.Moved old (actions.Submit step) new = (taken : List Answer) × trace old (as_submitted step) taken new
Uses trace results.Moved old actions.PollMail new = (answer : Answer) × trace old [] (answer ∷ []) new
Uses trace _ old action new = Unit {0}

-- the same of an action of a seat in this phase
abbrev pub UsesAt : {K L : Type 0} → (K → List Step → List Answer → K → Type 0) → Progress → K → SeatPhase L → K → Type 0
UsesAt trace result old (phases.On line action sent) new = Uses trace result old action new
UsesAt trace result old phases.Leaving new = Uses trace result old (actions.Submit Gone) new
UsesAt trace result old _ new = Unit {0}

-- A new seat.
pub record IsNewSeat {L : Type 0} (max_job_size : ℕ) (a : Attendant L) : Type 0 where
  pub phase : a.phase ≡ phases.Between
  pub awaits : awaited a.machine ≡ Awaited.ALine
  pub limit : a.machine.reader.max_job_size ≡ max_job_size

-- A door that a seat served until its end. For each connection that has ended, the seat submitted
-- the connection's steps, took an answer to each of its requests, and wrote these answers; finally
-- it submitted that no more connections come.
pub record IsDoorServed (max_job_size : ℕ) (door : DoorSeen) (submitted : List Step) (taken : List Answer) : Type 0 where
  pub done : IsSeatDone max_job_size door.lines_over submitted taken
  pub inside : door.is_out ≡ false
  pub at_end : door.is_at_end ≡ true

-- The doors that come back are those that were passed in, in order.
abbrev pub AreSame : {D : Type 0} → (D → D → Type 0) → List D → List D → Type 0
AreSame same firsts lasts = AllZip same firsts lasts
