-- What a loop knows of doors and seats after a report of the system, and after a door was tried.
use Rattle.std.specs.Prelude.{ℕ, ◌≡◌, ◌≢◌, ◌<◌, ◌⊎◌, Bool, true, false, not, ◌&&◌, List, Option, None}
use Rattle.bq_line.specs.declared.attendant.Attendant.{Attendant}
use Rattle.bq_line.specs.declared.attendant.TryOpened.{TryOpened}
use Rattle.bq_line.specs.declared.attendant.TryOpened.TheVariants as results
use Rattle.bq_line.specs.declared.door.turned_away.TurnedAway.{TurnedAway}
use Rattle.bq_line.specs.declared.door.turned_away.TurnedAway.TheVariants as closes
use Rattle.bq_event_loop.specs.Known.{ChangesOnly}
use Rattle.bq_event_loop.specs.declared.doors.Doors.{Doors}
use Rattle.bq_event_loop.specs.declared.doors.Rest.{Rest}
use Rattle.bq_event_loop.specs.declared.doors.Rest.TheVariants as pauses
use Rattle.bq_event_loop.specs.declared.sleeper.Report.{Report}
use Rattle.bq_event_loop.specs.declared.sleeper.Report.TheVariants as reports
use Rattle.bq_event_loop.specs.declared.turns.Turn.{Turn}
use Rattle.bq_event_loop.specs.declared.turns.Turn.TheVariants as turns

-- no connection is accepted for a while
abbrev pub rests : Rest → Bool
rests pauses.None = false
rests _ = true

-- A pause at the end of a wait: one until a moment may go on, any other ends.
abbrev pub IsPassed : Rest → Rest → Type 0
IsPassed (pauses.Until moment) new = (new ≡ pauses.Until moment) ⊎ (new ≡ pauses.None)
IsPassed _ new = new ≡ pauses.None

-- A door should be checked: a connection may have come, and one would be accepted.
abbrev pub may_come : Doors → Bool
may_come d = d.may_have_come && not (rests d.rest)

-- a connection may have come
abbrev pub one_came : Doors → Doors
one_came d = record d { may_have_come = true }

-- all connections were accepted
abbrev pub none_there : Doors → Doors
none_there d = record d { may_have_come = false }

-- A pause has begun, and nothing else changed.
abbrev pub BeginsRest : Doors → Doors → Type 0
BeginsRest old new = (new ≡ record old { rest = new.rest }) × (rests new.rest ≡ true)

-- The doors after one was tried. Before it a connection may have come, or not.
abbrev pub IsAfterTry : TryOpened → Bool → Doors → Doors → Type 0
IsAfterTry results.NotYet true old new = new ≡ none_there old
IsAfterTry results.Later may old new = BeginsRest old new
IsAfterTry _ may old new = new ≡ old

-- The doors after connections were closed because all seats are taken; this is the last result.
abbrev pub AfterTurningAway : TurnedAway → Doors → Doors → Type 0
AfterTurningAway closes.Closed old new = new ≡ record old { are_more_away = true }
AfterTurningAway closes.NoneThere old new = new ≡ none_there old
AfterTurningAway closes.Later old new = BeginsRest old new
AfterTurningAway closes.Waits old new = new ≡ old

-- The same after some result.
pub record IsTurnedAway (old new : Doors) : Type 0 where
  pub turned : TurnedAway
  pub after : AfterTurningAway turned old new

-- The report that an event with this token is, if it is not one of the control line.
abbrev pub IsReportOf : ℕ → Report → Type 0
IsReportOf token reports.Doors = token ≡ 18446744073709551614
IsReportOf token (reports.Line seat ready) = (token ≡ seat) × (seat ≢ 18446744073709551614)
IsReportOf token reports.Nothing = ⊥

-- the doors after a report
abbrev pub doors_after : Report → Doors → Doors
doors_after reports.Doors d = one_came d
doors_after _ d = d

-- At most the seat of a report changed.
abbrev pub ChangesOnlyBy : {L : Type 0} → Report → List (Attendant L) → List (Attendant L) → Type 0
ChangesOnlyBy (reports.Line seat ready) old new = ChangesOnly seat old new
ChangesOnlyBy _ old new = new ≡ old

-- The seat of a report acts, unless it checks for a client.
abbrev pub IsToldOf : Report → ℕ → (ℕ → Bool) → (ℕ → Bool) → Type 0
IsToldOf (reports.Line seat ready) many tries listed = seat < many → (tries seat ≡ true → ⊥) → listed seat ≡ true
IsToldOf _ many tries listed = Unit {0}

-- At most it became known that a connection may have come.
abbrev pub MayHaveCome : Doors → Doors → Type 0
MayHaveCome old new = (new ≡ old) ⊎ (new ≡ one_came old)

-- The doors after a turn. If a door was tried and a client found, nothing changed. What may have come before a
-- wait still may.
abbrev pub IsAfterTurn : Turn → Option ℕ → Doors → Doors → Type 0
IsAfterTurn (turns.TryOpen seat) free old new = free ≡ None → new ≡ old
IsAfterTurn turns.TurnAway free old new = IsTurnedAway old new
IsAfterTurn turns.Time free old new = old.may_have_come ≡ true → new.may_have_come ≡ true
IsAfterTurn _ free old new = new ≡ old
