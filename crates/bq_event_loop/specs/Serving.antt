-- Seats that are served at the core of a loop, in any order.
use Rattle.std.specs.Prelude.{ℕ, ◌≡◌, ◌<◌, ◌≤◌, List, [], ◌++◌, length, Option, slice_index_or}
use Rattle.bq_job.specs.beside.Closings.{closes}
use Rattle.bq_job.specs.declared.answer.Answer.{Answer}
use Rattle.bq_job.specs.declared.step.Step.{Step}
use Rattle.bq_job.specs.promise.History.{steps_at}
use Rattle.bq_job.specs.promise.Runs.{Entry}
use Rattle.bq_line.specs.Tending.{AreSame, IsTended, door_seen, ended_lines}
use Rattle.bq_line.specs.declared.attendant.Attendant.{Attendant}
use Rattle.bq_host.specs.Hubs.{HubTrace, state_of}
use Rattle.bq_host.specs.MailStates.{IsInOrder, IsNewMailState, MailState}
use Rattle.bq_host.specs.WakeLists.{Wakes}
use Rattle.bq_line.specs.ControlTold.{HasTold, TellsOn}
use Rattle.bq_event_loop.specs.Known.{ChangesOnly}
use Rattle.bq_event_loop.specs.Meanings.{Clock, Control, Core, Door, Line}
use Rattle.bq_line.specs.declared.control_steps.ControlSteps.{ControlSteps}
use Rattle.bq_host.specs.Traces.{CoreTrace}
use Rattle.bq_event_loop.specs.Rows.{AreTended}
use Rattle.bq_event_loop.specs.SoFar.{Beginning}
use Rattle.bq_host.specs.declared.hub.Hub.{Hub}
use Rattle.bq_event_loop.specs.declared.row.Row.{Row}

-- What was served since the run began so, with a new core. The core took the steps of one history, at moments of the clock's
-- readings. Each seat did what the history has for it, with the answers that were taken out for it. At most one answer is `Closed`
-- for each of its connections that has ended. The control line, whose number comes after those of the seats, submitted these steps.
-- The history has no other steps, and begins with the earlier one.
pub record AreServed {C K L D : Type 0} (k : Core K) (c : Clock C) (l : Line L) (d : Door D L) (earlier : List Entry)
    (begun : Beginning D C) (told : List Step) (core : Hub C K) (row : Row L D) : Type 0 where
  pub first : MailState
  pub readings : List (Option ℕ)
  pub history : List Entry
  pub more : List Entry
  pub begins : history ≡ earlier ++ more
  pub took : ℕ → List Answer
  pub is_new : IsNewMailState begun.settings first
  pub gave : c.given begun.clock readings core.timed.time.clock
  pub trace : CoreTrace first readings history took (state_of k core)
  pub many : length row.seats.items ≡ begun.settings.seats
  pub doored : length row.doors.items ≡ begun.settings.seats
  pub each : (seat : ℕ) → seat < length row.seats.items → (a : Attendant L) (x : D)
      → IsTended l.seen begun.settings.max_job_size (slice_index_or row.seats.items seat a)
      (door_seen d (slice_index_or row.doors.items seat x)) (steps_at seat history) (took seat)
  pub few : (seat : ℕ) → seat < length row.seats.items → (a : Attendant L) (x : D)
      → closes (took seat) ≤ ended_lines (slice_index_or row.seats.items seat a) (door_seen d (slice_index_or row.doors.items seat x))
  pub control_is : steps_at begun.settings.seats history ≡ told
  pub nobody_else : (seat : ℕ) → begun.settings.seats < seat → steps_at seat history ≡ []
  pub same_doors : AreSame d.same begun.doors row.doors.items

-- Whatever was served before, the service went on, and the control line submitted nothing. Whatever the history was before, the
-- later one begins with it.
abbrev pub ServesOn : {C K L D : Type 0} → Core K → Clock C → Line L → Door D L → Hub C K → Row L D → Hub C K → Row L D → Type 0
ServesOn {C} {K} {L} {D} k c l d old row new later =
    (earlier : List Entry) (begun : Beginning D C) (told : List Step) → AreServed k c l d earlier begun told old row
    → AreServed k c l d earlier begun told new later

-- What was served since the run began so, with the control line, which submitted its steps.
pub record IsServing {L D C I K : Type 0} (k : Core K) (c : Clock C) (l : Line L) (d : Door D L) (i : Control I) (earlier : List Entry)
    (begun : Beginning D C) (core : Hub C K) (row : Row L D) (control : ControlSteps I) : Type 0 where
  pub told : List Step
  pub submits : HasTold i begun.left begun.may_fail control told
  pub served : AreServed k c l d earlier begun told core row

-- Whatever was served before, the service went on, and the later history begins with the earlier one.
abbrev pub LoopTrace : {C K L D I : Type 0} → Core K → Clock C → Line L → Door D L → Control I → Hub C K → Row L D → ControlSteps I
    → Hub C K → Row L D → ControlSteps I → Type 0
LoopTrace {C} {K} {L} {D} {I} k c l d i old row control new later next =
    (earlier : List Entry) (begun : Beginning D C) → IsServing k c l d i earlier begun old row control
    → IsServing k c l d i earlier begun new later next

-- What the control line submitted at a hub, whose seats have the numbers before its own.
pub record ControlTrace {C K I : Type 0} (k : Core K) (c : Clock C) (i : Control I) (old : Hub C K)
    (control : ControlSteps I) (new : Hub C K) (next : ControlSteps I) : Type 0 where
  pub order : IsInOrder (state_of k new)
  pub told : List Step
  pub tells : TellsOn i control told next
  pub trace : HubTrace k c (length old.mails.items) old told [] new

-- The core of a loop and its seats are ready for a turn. The core is in order. Each seat has done
-- something for its door's connections, by the rules, and has its mail. The numbers of the seats
-- and of the control line fit in 16 bits.
abbrev pub AreReady : {C K L D : Type 0} → Core K → Line L → Door D L → Hub C K → Row L D → Type 0
AreReady k l d core row =
    IsInOrder (state_of k core) × AreTended l d row × (length core.mails.items ≡ length row.seats.items)
    × (length row.seats.items ≤ 65535)

-- The same, and this is one of the seats.
abbrev pub AreReadyFor : {C K L D : Type 0} → Core K → Line L → Door D L → ℕ → Hub C K → Row L D → Type 0
AreReadyFor k l d seat core row = AreReady k l d core row × (seat < length row.seats.items)

-- At most this seat acted. It left the core and the seats in order, and the service went on. Each seat that got mail is to be woken.
pub record SeatActed {C K L D : Type 0} (k : Core K) (c : Clock C) (l : Line L) (d : Door D L) (seat : ℕ) (old : Hub C K) (row : Row L D)
    (new : Hub C K) (later : Row L D) : Type 0 where
  pub order : IsInOrder (state_of k new)
  pub tended : AreTended l d later
  pub mailed : length new.mails.items ≡ length old.mails.items
  pub serves : ServesOn k c l d old row new later
  pub only : ChangesOnly seat row.seats.items later.seats.items
  pub wakes : Wakes old.mails.items new.mails.items old.wake_queue new.wake_queue
