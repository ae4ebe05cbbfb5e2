use Rattle.bq_job.proofs.ComputedRunLemmas.{stepped_is_step}
use Rattle.bq_job.proofs.laws_of_machine.computed_is_step.Goals as goal

pub returns : goal.returns
returns c = stepped_is_step
