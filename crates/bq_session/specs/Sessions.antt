-- The promise for a client whose session has ended.
use Rattle.std.specs.Prelude.{ℕ, ◌≡◌, Bool, true, false, List, ◌++◌, Option, Some}
use Rattle.std.specs.List.{All}
use Rattle.bq_job.specs.declared.line_end.LineEnd.{LineEnd}
use Rattle.bq_job.specs.declared.settings.Settings.{Settings}
use Rattle.bq_job.specs.promise.Headline.{IsHistoryOfLine}
use Rattle.bq_job.specs.promise.LineSteps.{LineSeen}
use Rattle.bq_line.specs.declared.clock.MachineClock.{MachineClock}
use Rattle.bq_program.specs.declared.chosen.BqOptions.{BqOptions}

-- the settings of a lone client's run; a job of a lost connection is not delayed
abbrev pub settings_of_bq : BqOptions → Settings
settings_of_bq options = record { seats = 1; max_job_size = options.max_job_size; max_jobs = options.max_jobs; requeue_delay = 0 }

-- The readings of a session's clock. If it stands still each is 0; else they are those that the computer's clock
-- gave from the first to the last.
pub record HasGiven {K : Type 0} (is_still : Bool) (first : MachineClock K) (readings : List (Option ℕ))
    (last : MachineClock K) : Type 0 where
  pub still : is_still ≡ true → All (λ reading. reading ≡ Some 0) readings
  pub machine : is_still ≡ false → last.given ≡ first.given ++ readings

-- A session by these options has ended. There is one history of the client's steps, each at the moment of a reading of the
-- clock that the options choose. The one-list model takes it by the options' settings, and the client received exactly the
-- bytes that this history prescribes.
pub record IsSession {K : Type 0} (options : BqOptions) (first last : MachineClock K) (seen : LineSeen) (end : LineEnd) : Type 0 where
  pub readings : List (Option ℕ)
  pub given : HasGiven options.still first readings last
  pub history : IsHistoryOfLine (settings_of_bq options) 0 (record { seen = seen; over = end }) readings
