-- The state of a hub, and what happens at it.
use Rattle.std.specs.Prelude.{ℕ, ◌≡◌, ◌⊎◌, ◌<◌, ◌∷◌, true, Bool, List, length, Option}
use Rattle.bq_job.specs.declared.answer.Answer.{Answer}
use Rattle.bq_job.specs.declared.step.Step.{Step}
use Rattle.bq_job.specs.machine.Dispatch.{GivenAnswer}
use Rattle.bq_line.specs.GivenReadings.{GaveReadings}
use Rattle.bq_host.specs.{Clocks.Gives, MailStates.{IsInOrder, MailState, mail_state}, Meanings.{Clock, Core}, Traces.SeatTraceBy}
use Rattle.bq_host.specs.WakeLists.{Wakes}
use Rattle.bq_host.specs.declared.hub.Hub.{Hub}

-- the state of a hub
abbrev pub state_of : {C K : Type 0} → Core K → Hub C K → MailState
state_of k h = mail_state k h.timed h.held_back h.mails.items h.all_delivered

-- A hub is in order, and this is one of its seats.
abbrev pub IsInOrderFor : {C K : Type 0} → Core K → ℕ → Hub C K → Type 0
IsInOrderFor k seat core = IsInOrder (state_of k core) × (seat < length core.mails.items)

-- What a seat did at a hub. Each seat that got mail and had none is to be woken, if the hub notes this seat.
abbrev pub HubTrace : {C K : Type 0} → Core K → Clock C → ℕ → Hub C K → List Step → List Answer → Hub C K → Type 0
HubTrace k c seat old submitted taken new =
    SeatTraceBy c.given seat old.timed.time.clock (state_of k old) submitted taken new.timed.time.clock (state_of k new)
    × Wakes old.mails.items new.mails.items old.wake_queue new.wake_queue

-- The same, and it left the hub in order.
abbrev pub TraceInOrder : {C K : Type 0} → Core K → Clock C → ℕ → Hub C K → List Step → List Answer → Hub C K → Type 0
TraceInOrder k c seat old submitted taken new = IsInOrder (state_of k new) × HubTrace k c seat old submitted taken new

-- a hub with other answers that are not in the mail: the one that is held back, the core's, and the mark about them
abbrev pub with_pending : {C K : Type 0} → Option GivenAnswer → List GivenAnswer → Bool → Hub C K → Hub C K
with_pending held_back given delivered h =
    record h { held_back = held_back; timed = record h.timed { outs = record h.timed.outs { given = given } }; all_delivered = delivered }

-- What stays the same while answers move: the clock, the mark of a fresh reading, what was logged, and what is still to be logged.
pub record OnlyMoves {C K : Type 0} (old new : Hub C K) : Type 0 where
  pub time : new.timed.time ≡ old.timed.time
  pub fresh : new.is_fresh ≡ old.is_fresh
  pub notices : new.timed.notices ≡ old.timed.notices
  pub unlogged : new.unlogged ≡ old.unlogged

-- The clock was read.
abbrev pub IsRead : {C : Type 0} → Gives C → C → C → Type 0
IsRead given old new = (reading : Option ℕ) × (more : List (Option ℕ)) × GaveReadings given old (reading ∷ more) new

-- If the last reading counts as fresh now, it did before, or the clock was read since.
abbrev pub KeepsFresh : {C K : Type 0} → Gives C → Hub C K → Hub C K → Type 0
KeepsFresh given old new = new.is_fresh ≡ true → (old.is_fresh ≡ true) ⊎ IsRead given old.timed.time.clock new.timed.time.clock
