-- What the next action is once its step is no longer lent.
use Rattle.std.specs.Borrow.{Fml, Lends, MutBor}
use Rattle.bq_job.specs.declared.step.Step.{Step}
use Rattle.bq_job.specs.contracts.step.Step.{the_row as step_row}
use Rattle.bq_seat.specs.NextActions.{with_step}
use Rattle.bq_seat.specs.contracts.next_action.NextAction.{the_row}
use Rattle.bq_seat.specs.declared.machine.Action.{Action}

-- the same action, with the step that `lent` shows last
abbrev pub LendsStep : MutBor Action → MutBor Step → Fml
LendsStep next lent = Lends the_row step_row next lent (with_step next.now)
