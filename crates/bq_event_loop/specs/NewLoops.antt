-- An event loop that is ready to run.
use Rattle.std.specs.Prelude.{◌≡◌, ◌≤◌, [], length}
use Rattle.std.specs.List.{All}
use Rattle.bq_job.specs.declared.settings.Settings.{Settings}
use Rattle.bq_host.specs.Hubs.{state_of}
use Rattle.bq_host.specs.MailStates.{IsNewMailState}
use Rattle.bq_host.specs.WakeLists.{none_waits}
use Rattle.bq_host.specs.declared.hub.Hub.{Hub}
use Rattle.bq_line.specs.ControlTold.{HasTold}
use Rattle.bq_line.specs.Tending.{IsNewDoor, IsNewSeat, door_seen}
use Rattle.bq_line.specs.declared.control_steps.ControlSteps.{ControlSteps}
use Rattle.bq_event_loop.specs.Known.{KnowsAll}
use Rattle.bq_event_loop.specs.Meanings.{Control, Core, Door}
use Rattle.bq_event_loop.specs.SoFar.{Beginning}
use Rattle.bq_event_loop.specs.declared.row.Row.{Row}
use Rattle.bq_event_loop.specs.declared.run.NewParts.{NewParts}
use Rattle.bq_event_loop.specs.declared.turns.Turns.{Ghosts as Turns}

-- Its core is new and has this clock, no seat is to be woken, and it has all seats of these settings, which are new.
pub record IsNewLoop {L C K : Type 0} (k : Core K) (config : Settings) (clock : C) (parts : NewParts L C K) : Type 0 where
  pub made : IsNewMailState config (state_of k parts.core)
  pub clock_is : parts.core.timed.time.clock ≡ clock
  pub woken : parts.core.wake_queue ≡ none_waits (length parts.core.mails.items)
  pub many : length parts.seats.items ≡ config.seats
  pub new_seats : All (IsNewSeat config.max_job_size) parts.seats.items

-- A run that begins so: its core, seats, doors and control line are new, and its turns are for it and know each seat.
pub record IsNewRun {L D C I K T : Type 0} (k : Core K) (d : Door D L) (i : Control I) (t : Turns T) (begun : Beginning D C) (turns : T)
    (core : Hub C K) (row : Row L D) (control : ControlSteps I) : Type 0 where
  pub made : IsNewMailState begun.settings (state_of k core)
  pub clock_is : core.timed.time.clock ≡ begun.clock
  pub woken : core.wake_queue ≡ none_waits (length core.mails.items)
  pub fits : begun.settings.seats ≤ 65535
  pub many : length row.seats.items ≡ begun.settings.seats
  pub new_seats : All (IsNewSeat begun.settings.max_job_size) row.seats.items
  pub doored : length row.doors.items ≡ begun.settings.seats
  pub new_doors : All (λ door. IsNewDoor (door_seen d door)) row.doors.items
  pub doors_are : row.doors.items ≡ begun.doors
  pub untold : HasTold i begun.left begun.may_fail control []
  pub of_run : t.is_of begun
  pub knows : KnowsAll begun.settings.seats (t.seats turns) (t.listed turns) (t.tries turns)
