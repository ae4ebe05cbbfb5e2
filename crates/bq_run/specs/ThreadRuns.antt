-- The result of a run over doors.
use Rattle.std.specs.Prelude.{ℕ, ◌≡◌, ◌||◌, Bool, true, IsTrue, List, Option, map}
use Rattle.bq_job.specs.declared.settings.Settings.{Settings}
use Rattle.bq_job.specs.machine.Machine.{Machine, new_machine}
use Rattle.bq_job.specs.promise.Headline.{IsHistoryOf}
use Rattle.bq_job.specs.promise.History.{LineOver}
use Rattle.bq_line.specs.ControlRead.{IsReadToEnd}
use Rattle.bq_host.specs.Compared.{AreCompared}
use Rattle.bq_host.specs.Clocks.{Gives}
use Rattle.bq_run.specs.Linked.{IsLinked}
use Rattle.bq_run.specs.declared.run.Run.{Run}

-- The run began with this clock and this control line. The clock gave these readings. The control
-- line was read to its end or until a read failed, and it records which and what was read; it
-- failed only if a read of it may fail.
--
-- One history of these readings, this control line and the connections that the doors have served
-- leads to the model that the core represents. The core took its steps, without ticks, at its end
-- of the links. Each other end submitted the steps that the history has for it, and received the
-- answers that the run gave to it. The comparisons of keys stayed within the bound of each step,
-- and of at most one query for the next due moment before each step and after the last.
pub record IsRunOf {D C I K : Type 0} (given : Gives C) (lines_over : D → List LineOver) (left : I → Option (List ℕ)) (may_fail : I → Bool)
    (machine : K → Machine) (comparisons : K → ℕ) (config : Settings) (clock : C) (control : I) (run : Run D C I K) : Type 0 where
  pub readings : List (Option ℕ)
  pub gave : given clock readings run.clock
  pub over : IsTrue (run.control.ended || run.control.failed)
  pub read : IsReadToEnd (left control) (left run.control.reader) run.control.read run.control.failed
  pub fault : run.control.failed ≡ true → may_fail control ≡ true
  pub history : IsHistoryOf config (map lines_over run.doors.items) run.control.read run.control.failed readings (machine run.core)
  pub linked : IsLinked config.seats history.history history.given run.core_end run.ends.items
  pub of_intake : run.core_end.intake ≡ run.intake.id
  pub compared : AreCompared (new_machine config) history.history history.given (machine run.core) 0 (comparisons run.core)
