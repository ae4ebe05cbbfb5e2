-- The results of a run's threads.
use Rattle.std.specs.Prelude.{ℕ, ◌≡◌, ◌||◌, Bool, true, IsTrue, List, Option}
use Rattle.std.specs.List.{AllZip}
use Rattle.bq_job.specs.declared.settings.Settings.{Settings}
use Rattle.bq_job.specs.promise.ControlDid.{IsControlDone}
use Rattle.bq_job.specs.machine.Machine.{Machine}
use Rattle.bq_line.specs.ControlRead.{IsReadToEnd}
use Rattle.bq_line.specs.Tending.{DoorSeen, IsDoorServed}
use Rattle.bq_line.specs.declared.control_line.ControlLine.{ControlLine}
use Rattle.bq_link.specs.EndStates.{CoreState, IsSameCore, IsSameSeat, SeatState}
use Rattle.bq_host.specs.Clocks.{Gives}
use Rattle.bq_thread_work.specs.CoreWork.{IsCoreDone}
use Rattle.bq_thread_work.specs.Ends.{IsNewEnd}
use Rattle.atomic_table.specs.Seated.{TableId}

-- The seats' threads have ended, in the order of their seats: each has the end that it began with,
-- and served its door to its end.
abbrev pub AreServed : {D : Type 0} → (D → DoorSeen) → ℕ → List SeatState → List SeatState → List D → Type 0
AreServed at max_job_size firsts lasts doors =
    AllZip IsSameSeat firsts lasts × AllZip (λ door last. IsDoorServed max_job_size (at door) last.submitted last.taken) doors lasts

-- The core's thread has ended. The core had compared nothing at first, and has made this many
-- comparisons.
pub record IsCoreOver {C : Type 0} (gives : Gives C) (settings : Settings) (first : CoreState) (clock : C) (last : CoreState)
    (machine : Machine) (compared : ℕ) (after : C) : Type 0 where
  pub same : IsSameCore first last
  pub readings : List (Option ℕ)
  pub gave : gives clock readings after
  pub done : IsCoreDone settings readings last machine 0 compared

-- The control line was read to its end, or until a read failed; it failed only if a read of it may
-- fail.
pub record IsControlOver {I : Type 0} (left : I → Option (List ℕ)) (may_fail : I → Bool) (first : SeatState) (control : I)
    (last : SeatState) (after : ControlLine I) : Type 0 where
  pub same : IsSameSeat first last
  pub over : IsTrue (after.ended || after.failed)
  pub read : IsReadToEnd (left control) (left after.reader) after.read after.failed
  pub fault : after.failed ≡ true → may_fail control ≡ true
  pub done : IsControlDone after.read after.failed last.submitted

-- A new end of this intake.
pub record IsNewEndAt (intake : TableId) (end : SeatState) : Type 0 where
  pub at : end.intake ≡ intake
  pub new : IsNewEnd end
