-- What the core did: starting from a new model it took steps, each at the moment of a clock
-- reading, and gave answers. It does not refer to seats.
use Rattle.std.specs.Prelude.{ℕ, List, Option}
use Rattle.bq_job.specs.{machine.{GivenAnswer, Settings, new_machine, Machine.Machine}, promise.History.IsTimedBy}
use Rattle.bq_job.specs.promise.Runs.{Entry, Run}

pub record IsRun (settings : Settings) (readings : List (Option ℕ)) (history : List Entry)
    (given : List GivenAnswer) (last : Machine) : Type 0 where
  pub runs : Run (new_machine settings) history given last
  pub timed : IsTimedBy readings history
