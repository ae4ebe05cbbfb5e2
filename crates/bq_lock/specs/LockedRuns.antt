-- The result of a run around one lock.
use Rattle.std.specs.Prelude.{ℕ, List}
use Rattle.bq_job.specs.declared.answer.Answer.{Answer}
use Rattle.bq_job.specs.declared.step.Step.{Step}
use Rattle.bq_line.specs.Tending.{DoorSeen, IsDoorServed}

-- A door that a seat served to its end, with some submitted steps and some taken answers.
pub record IsServedToEnd (max_job_size : ℕ) (door : DoorSeen) : Type 0 where
  pub submitted : List Step
  pub taken : List Answer
  pub served : IsDoorServed max_job_size door submitted taken
