-- The result of a run by an event loop.
use Rattle.std.specs.Prelude.{ℕ, ◌≡◌, ◌||◌, Bool, true, IsTrue, List, Option, map}
use Rattle.bq_job.specs.declared.settings.Settings.{Settings}
use Rattle.bq_job.specs.machine.Machine.{Machine, new_machine}
use Rattle.bq_job.specs.promise.Headline.{IsHistoryOf}
use Rattle.bq_job.specs.promise.History.{LineOver}
use Rattle.bq_job.specs.promise.LineSteps.{LineSeen}
use Rattle.bq_line.specs.ControlRead.{IsReadToEnd}
use Rattle.bq_host.specs.Compared.{AreCompared}
use Rattle.bq_host.specs.Clocks.{Gives}
use Rattle.bq_event_loop.specs.SoFar.{IsLoopSoFar, beginning}
use Rattle.bq_event_loop.specs.declared.run.EventLoopRun.{EventLoopRun}

-- The run began with this clock and this control line. Its fields are those of `IsRunOf` of
-- `bq_run`, with the same definitions, except for the links between threads, which this run does
-- not have. The clock gave these readings. The control line was read to its end or until a read
-- failed, and it failed only if a read of it may fail. One history of the control line and the
-- connections that the doors have served leads to the model that the core represents. The core's
-- comparisons of keys stayed within the bound of each of its steps, and of at most one query for
-- the next due moment before each step and after the last.
pub record IsEventLoopRun {L D C I K : Type 0} (given : Gives C) (lines_over : D → List LineOver) (left : I → Option (List ℕ))
    (may_fail : I → Bool)
    (machine : K → Machine) (comparisons : K → ℕ)
    (config : Settings) (clock : C) (control : I) (run : EventLoopRun L D C I K) : Type 0 where
  pub readings : List (Option ℕ)
  pub gave : given clock readings run.clock
  pub over : IsTrue (run.control.ended || run.control.failed)
  pub read : IsReadToEnd (left control) (left run.control.reader) run.control.read run.control.failed
  pub fault : run.control.failed ≡ true → may_fail control ≡ true
  pub history : IsHistoryOf config (map lines_over run.doors.items) run.control.read run.control.failed readings (machine run.core)
  pub compared : AreCompared (new_machine config) history.history history.given (machine run.core) 0 (comparisons run.core)

-- The same of a run that may have been broken off. Its doors are those that it began with.
abbrev pub IsEventLoopSoFar : {L D C I K : Type 0} → Gives C → (L → LineSeen) → (D → List LineOver) → (D → Bool) → (D → D → Type 0)
    → (I → Option (List ℕ)) → (I → Bool) → (K → Machine) → (K → ℕ) → Settings → List D → C → I → EventLoopRun L D C I K → Type 0
IsEventLoopSoFar given seen lines_over is_out same left may_fail machine comparisons config doors clock control run =
    IsLoopSoFar given seen lines_over is_out same machine comparisons (beginning config doors clock (left control) (may_fail control))
    run.seats.items run.doors.items run.clock
    (record { text = run.control.read; ended = run.control.ended; failed = run.control.failed }) (left run.control.reader) run.core
