-- A run of the loop that has not ended: what it began with, and what was served so far.
use Rattle.std.specs.Prelude.{Bool, true, ◌≡◌, List, [], ◌∷◌, Option, Some, None, ℕ}
use Rattle.std.specs.Io.KnownBytes.{Consumes}
use Rattle.bq_job.specs.declared.settings.Settings.{Settings}
use Rattle.bq_job.specs.machine.Machine.{Machine, new_machine}
use Rattle.bq_job.specs.promise.History.{LineOver}
use Rattle.bq_job.specs.promise.LineSteps.{LineSeen}
use Rattle.bq_job.specs.promise.SoFar.{DoorSoFar, IsHistorySoFar}
use Rattle.bq_host.specs.Clocks.{Gives}
use Rattle.bq_host.specs.Compared.{AreCompared}
use Rattle.bq_line.specs.ControlSeen.{ControlSeen}
use Rattle.bq_line.specs.Tending.{AreSame}
use Rattle.bq_line.specs.declared.attendant.Attendant.{Attendant}
use Rattle.bq_line.specs.declared.attendant.SeatPhase.{SeatPhase}
use Rattle.bq_line.specs.declared.attendant.SeatPhase.TheVariants as phases
use Rattle.bq_event_loop.specs.Meanings.{Clock, Control, Core, Door, Line}
use Rattle.bq_event_loop.specs.declared.turns.Began.{Began}
use Rattle.bq_event_loop.specs.declared.turns.SoFar.{SoFar}

-- the connection that a seat serves
abbrev pub line_out : {L : Type 0} → (L → LineSeen) → SeatPhase L → Option LineSeen
line_out seen (phases.On line action sent) = Some (seen line)
line_out seen _ = None

-- the connections of each seat and its door
abbrev pub doors_so_far : {L D : Type 0} → (L → LineSeen) → (D → List LineOver) → (D → Bool) → List (Attendant L) → List D
    → List DoorSoFar
doors_so_far seen over is_out (seat ∷ seats) (door ∷ doors) =
    record { over = over door; out = line_out seen seat.phase; is_out = is_out door } ∷ doors_so_far seen over is_out seats doors
doors_so_far seen over is_out _ _ = []

-- what a run began with: its settings, doors and clock, the bytes of its control line, if they are
-- known, and whether a read of them may fail
pub record Beginning (D C : Type 0) : Type 0 where
  pub settings : Settings
  pub doors : List D
  pub clock : C
  pub left : Option (List ℕ)
  pub may_fail : Bool

abbrev pub beginning : {D C : Type 0} → Settings → List D → C → Option (List ℕ) → Bool → Beginning D C
beginning settings doors clock left may_fail =
    record { settings = settings; doors = doors; clock = clock; left = left; may_fail = may_fail }

-- of what a run is passed
abbrev pub began_with : {D C I : Type 0} → Control I → Began D C I → Beginning D C
began_with i b =
    beginning b.config.value b.doors.value.items b.clock.value (i.remaining b.control.value) (i.may_fail b.control.value)

-- A run that began so, with these seats and doors, this clock, control line and core now. Its fields are
-- those of `IsEventLoopRun`, and its doors are those that it began with.
pub record IsLoopSoFar {L D C K : Type 0} (given : Gives C) (line_seen : L → LineSeen) (lines_over : D → List LineOver)
    (is_out : D → Bool) (same : D → D → Type 0) (machine : K → Machine) (comparisons : K → ℕ) (first : Beginning D C)
    (seats : List (Attendant L)) (doors : List D) (clock : C) (control : ControlSeen) (left : Option (List ℕ)) (core : K) : Type 0 where
  pub readings : List (Option ℕ)
  pub gave : given first.clock readings clock
  pub read : Consumes first.left left control.text
  pub fault : control.failed ≡ true → first.may_fail ≡ true
  pub history : IsHistorySoFar first.settings (doors_so_far line_seen lines_over is_out seats doors) control.text control.failed
      readings (machine core)
  pub compared : AreCompared (new_machine first.settings) history.history history.given (machine core) 0 (comparisons core)
  pub same_doors : AreSame same first.doors doors

-- The same at a turn.
abbrev pub IsLoopAtTurn : {L D C I K : Type 0} → Clock C → Line L → Door D L → Control I → Core K → Began D C I → SoFar L D C I K → Type 0
IsLoopAtTurn c l d i k began so_far =
    IsLoopSoFar c.given l.seen d.lines_over d.is_out d.same k.machine k.comparisons (began_with i began)
    so_far.seats.value.items so_far.doors.value.items so_far.clock.value (i.seen so_far.control.value)
    (i.remaining so_far.control.value) so_far.core.value
