-- What a seat machine represents: the pasts that its fields agree with.
use Rattle.std.specs.Prelude.{ℕ, ◌≡◌, ◌+◌, ◌<◌, Bool, true, false, if◌then◌else◌, List, [], ◌∷◌, ◌++◌, length, map, Option, None}
use Rattle.std.specs.List.{list_any}
use Rattle.bq_job.specs.declared.answer.Answer.{Answer}
use Rattle.bq_job.specs.declared.line_end.LineEnd.{LineEnd}
use Rattle.bq_job.specs.declared.line_end.LineEnd.TheVariants as ends
use Rattle.bq_job.specs.declared.line_end.LineFault.{LineFault}
use Rattle.bq_job.specs.declared.request.Request.{Request}
use Rattle.bq_job.specs.declared.request.Request.TheVariants as requests
use Rattle.bq_job.specs.declared.step.Step.{Step}
use Rattle.bq_job.specs.declared.step.Step.TheVariants as steps
use Rattle.bq_job.specs.reading.Reading.{AreUnits, BeginsNoUnit, is_quit}
use Rattle.bq_job.specs.promise.LineSteps.{ends_by_wait}
use Rattle.bq_job.specs.machine.OneClient.{has_closed}
use Rattle.bq_wire.specs.Standing.{Stands}
use Rattle.bq_wire.specs.declared.reader.ReaderState.{ReaderState}
use Rattle.bq_seat.specs.Past.{Past, Awaited, IsOrderly, with_action}
use Rattle.bq_seat.specs.Served.{IsServed, IsServedToClose}
use Rattle.bq_seat.specs.declared.machine.Action.TheVariants as actions
use Rattle.bq_seat.specs.declared.machine.SeatMachine.{SeatMachine}
use Rattle.bq_seat.specs.declared.machine.Stage.{Stage}
use Rattle.bq_seat.specs.declared.machine.Stage.TheVariants as stages

abbrev pub has_quit : List Request → Bool
has_quit asked = list_any is_quit asked

abbrev pub end_if : Bool → List Step
end_if told = if told then steps.End ∷ [] else []

-- The bytes that were read are the units of the submitted requests, then the unfinished request in
-- the reader, then the kept bytes.
pub record HasReadTo (reader : ReaderState) (kept : List ℕ) (asked : List Request) (bytes : List ℕ) : Type 0 where
  pub units : List ℕ
  pub begun : List ℕ
  pub stands : Stands reader begun
  pub no_unit : BeginsNoUnit reader.max_job_size begun
  pub are_units : AreUnits reader.max_job_size units asked
  pub bytes_are : bytes ≡ units ++ (begun ++ kept)

-- The steps are a connect and the requests, none of them quit. An end is among them only if the
-- last request may wait and no bytes are kept.
pub record HasStepped (kept : List ℕ) (told : Bool) (asked : List Request) (taken : List Step) (closing ended : Bool) : Type 0 where
  pub no_quit : has_quit asked ≡ false
  pub steps_are : taken ≡ (steps.Connect ∷ map steps.Ask asked) ++ end_if told
  pub told_well : told ≡ true → (ends_by_wait asked ≡ true) × (kept ≡ [])
  pub closing_is : closing ≡ false
  pub ended_is : ended ≡ told

-- This many answers are outstanding; the others were given for writing, and nothing failed.
pub record HasHandedOut (outstanding : ℕ) (asked : List Request) (mail late written : List Answer) (fault : Option LineFault) : Type 0 where
  pub written_is : written ≡ mail
  pub answered : length mail + outstanding ≡ length asked
  pub late_is : late ≡ []
  pub fault_is : fault ≡ None

-- a connection that is open
pub record IsOpen (reader : ReaderState) (kept : List ℕ) (told : Bool) (outstanding : ℕ) (p : Past) : Type 0 where
  pub asked : List Request
  pub read : HasReadTo reader kept asked p.bytes
  pub stepped : HasStepped kept told asked p.steps p.closing p.ended
  pub handed : HasHandedOut outstanding asked p.mail p.late_mail p.written p.fault

-- the same with one answer outstanding; `waits` says whether the last request may wait
abbrev pub IsWaiting : ReaderState → List ℕ → Bool → Bool → Past → Type 0
IsWaiting reader kept told waits p =
    (line : IsOpen reader kept told 1 p) × (ends_by_wait line.asked ≡ waits)

-- The last step was a quit, and all earlier requests were answered.
pub record HasAskedQuit (p : Past) : Type 0 where
  pub asked : List Request
  pub steps_are : p.steps ≡ (steps.Connect ∷ map steps.Ask asked) ++ steps.Ask requests.Quit ∷ []
  pub answered : length p.mail ≡ length asked
  pub no_quit : has_quit asked ≡ false

-- the close was submitted, and its answer has not come
pub record IsClosing (max_job_size : ℕ) (end : LineEnd) (p : Past) : Type 0 where
  pub served : (written : List ℕ) → IsServedToClose max_job_size written end p
  pub closing_is : p.closing ≡ true
  pub unclosed : has_closed p.late_mail ≡ false

abbrev pub StandsInStage : Stage → ReaderState → List ℕ → Bool → Past → Type 0
StandsInStage stages.Between reader kept told p = (end : LineEnd) × ((written : List ℕ) → IsServed reader.max_job_size written end p)
StandsInStage stages.Connecting reader kept told p = IsOpen reader kept told 0 p × (told ≡ false) × (p.steps ≡ steps.Connect ∷ [])
StandsInStage stages.Reading reader kept told p = IsOpen reader kept told 0 p × (kept ≡ []) × (told ≡ false)
StandsInStage (stages.Asking waits) reader kept told p = IsWaiting reader kept told waits p × (told ≡ false)
StandsInStage (stages.Polling waits) reader kept told p = IsWaiting reader kept told waits p
StandsInStage stages.ReadingOn reader kept told p = IsWaiting reader kept told true p × (kept ≡ []) × (told ≡ false)
StandsInStage stages.TellingEnd reader kept told p = IsWaiting reader kept told true p × (told ≡ true)
StandsInStage stages.Writing reader kept told p = IsOpen reader kept told 0 p × (0 < length p.written)
-- a quit was submitted, and the connection may be closed
StandsInStage stages.AskingQuit reader kept told p =
    (p.closing ≡ false) × IsClosing reader.max_job_size ends.Quit (with_action (actions.Submit steps.Close) p) × HasAskedQuit p
StandsInStage (stages.Closing end) reader kept told p = IsClosing reader.max_job_size end p
StandsInStage (stages.Leaving end) reader kept told p = IsClosing reader.max_job_size end p

-- the machine's fields agree with this past
abbrev pub AgreesWith : SeatMachine → Past → Type 0
AgreesWith m p = StandsInStage m.stage m.reader m.kept m.end_told p

-- The machine represents this past. Crates above the seat do not unfold this; they use what the
-- machine's moves say.
unfoldable pub StandsFor : SeatMachine → Past → Type 0
StandsFor m p = AgreesWith m p × IsOrderly p

-- bytes that came after the submitted requests
abbrev pub kept_bytes : SeatMachine → List ℕ
kept_bytes m = m.kept

abbrev pub awaited_at : Stage → Awaited
awaited_at stages.Between = Awaited.ALine
awaited_at stages.Connecting = Awaited.ASubmission
awaited_at stages.Reading = Awaited.AReading
awaited_at (stages.Asking waits) = Awaited.ASubmission
awaited_at (stages.Polling waits) = Awaited.AMail
awaited_at stages.ReadingOn = Awaited.AReading
awaited_at stages.TellingEnd = Awaited.ASubmission
awaited_at stages.Writing = Awaited.AWriting
awaited_at stages.AskingQuit = Awaited.ASubmission
awaited_at (stages.Closing end) = Awaited.ASubmission
awaited_at (stages.Leaving end) = Awaited.AMail

-- what the machine awaits
abbrev pub awaited : SeatMachine → Awaited
awaited m = awaited_at m.stage
