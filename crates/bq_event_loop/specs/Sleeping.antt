-- What holds when an event loop waits for the system.
use Rattle.std.specs.Prelude.{ℕ, ℤ, pos, negsuc, min, ◌≡◌, ◌≤◌, ◌⊎◌, Bool, true, false, List, [], Option, Some, None}
use Rattle.bq_job.specs.beside.NextDue.{next_due}
use Rattle.bq_job.specs.declared.answer.Answer.{Answer}
use Rattle.bq_line.specs.declared.attendant.Attendant.{Attendant}
use Rattle.bq_host.specs.DueTimes.{IsWithinDue}
use Rattle.bq_host.specs.Hubs.{state_of}
use Rattle.bq_event_loop.specs.Known.{AreIdle, AreKnown}
use Rattle.bq_event_loop.specs.Meanings.{Core, Line}
use Rattle.bq_line.specs.declared.control_steps.ControlSteps.{ControlSteps}
use Rattle.bq_line.specs.declared.control_steps.Stage.{Stage}
use Rattle.bq_line.specs.declared.control_steps.Stage.TheVariants as stages
use Rattle.bq_host.specs.declared.hub.Hub.{Hub}
use Rattle.bq_event_loop.specs.declared.order.Stage.{Stage as Part}
use Rattle.bq_event_loop.specs.declared.order.Stage.TheVariants as parts
use Rattle.bq_event_loop.specs.declared.control_watch.ControlKnown.TheVariants as knowns
use Rattle.bq_event_loop.specs.declared.control_watch.ControlWatch.{ControlWatch}
use Rattle.bq_event_loop.specs.declared.control_watch.ControlWatch.TheVariants as watches
use Rattle.bq_event_loop.specs.declared.order.visits.Visit.{Visit}
use Rattle.bq_event_loop.specs.declared.turns.ControlReads.{ControlReads}
use Rattle.bq_event_loop.specs.declared.turns.ControlStands.{ControlStands}
use Rattle.bq_event_loop.specs.declared.turns.ControlStands.TheVariants as stands

-- the seat of the visit that is under way, or the one that checks for a client
abbrev pub visited_by : Part → Visit → Option ℕ
visited_by (parts.Visit part) visit = Some visit.seat
visited_by (parts.DoorTry seat) visit = Some seat
visited_by (parts.VisitTry seat part) visit = Some seat
visited_by (parts.HandOn seat part) visit = Some seat
visited_by _ visit = None

-- the state of a control line
abbrev pub stands_of : Bool → Stage → ControlStands
stands_of owes stages.Over = stands.Over
stands_of true _ = stands.Owes
stands_of false stages.Ended = stands.Owes
stands_of false stages.Reads = stands.Reads

-- The control line was read to its end. Or it owes no step, was read since it was handed in and since
-- the last report, and the system will report more of it.
abbrev pub IsControlStill : ControlWatch → ControlStands → Type 0
IsControlStill watches.Over standing = Unit {0}
IsControlStill (watches.Watched fd knowns.Waits) stands.Owes = ⊥
IsControlStill (watches.Watched fd knowns.Waits) _ = Unit {0}
IsControlStill _ standing = ⊥

-- The control line was read to its end, or the system will report more of it.
abbrev pub is_awaited : ControlWatch → Bool
is_awaited watches.Over = true
is_awaited (watches.Watched fd knowns.Waits) = true
is_awaited watch = false

-- All answers are in the mail of their seats, and a wait of at most this many
-- milliseconds ends no later than what is due.
pub record MayWait {C K : Type 0} (k : Core K) (most : Option ℕ) (core : Hub C K) : Type 0 where
  pub delivered : (state_of k core).pending ≡ []
  pub in_time : IsWithinDue most (next_due (k.machine core.timed.core)) core.timed.time.moment

-- The same, or there is to be no wait at all.
abbrev pub IsWaitFor : {C K : Type 0} → Core K → Option ℕ → Hub C K → Type 0
IsWaitFor k most core = (most ≡ Some 0) ⊎ MayWait k most core

-- Something is left to do before a wait: a seat acts, or checks for a client that may have come,
-- connections are left to close, something is due now, or the control line owes a step or is read.
abbrev pub HasWork : Bool → (ℕ → Bool) → (ℕ → Bool) → Bool → Option ℕ → ControlStands → Option ControlReads → Type 0
HasWork may_come listed tries are_more_away due standing reads =
    (AreIdle may_come listed tries → ⊥) ⊎ (are_more_away ≡ true) ⊎ (due ≡ Some 0) ⊎ (standing ≡ stands.Owes) ⊎ (reads ≡ None → ⊥)

-- What holds between two turns. No seat is forgotten, and each seat that has mail was woken for it.
-- A wait of `due` milliseconds ends in time. The control line stands so.
pub record IsAtTurn {L C I K : Type 0} (l : Line L) (k : Core K) (many : ℕ)
    (listed tries : ℕ → Bool) (seats : List (Attendant L)) (mails : List (List Answer)) (due : Option ℕ) (standing : ControlStands)
    (core : Hub C K) (control : ControlSteps I) : Type 0 where
  pub known : AreKnown l many listed tries [] seats mails
  pub mails_are : mails ≡ core.mails.items
  pub woken : core.wake_queue.waiting ≡ []
  pub in_time : IsWaitFor k due core
  pub stands : standing ≡ stands_of control.owes_drain control.stage

-- the timeout of epoll, in milliseconds: -1 for a wait without a limit
abbrev pub timeout_of : Option ℕ → ℤ
timeout_of None = negsuc 0
timeout_of (Some most) = pos (min most 2147483647)

-- A wait that is no longer than this limit. `None` stands for one without a limit.
abbrev pub IsNoLonger : Option ℕ → Option ℕ → Type 0
IsNoLonger wait None = Unit {0}
IsNoLonger None (Some most) = ⊥
IsNoLonger (Some wait) (Some most) = wait ≤ most
