use Rattle.bq_job.proofs.OutcomeLemmas.{computed_result}
use Rattle.bq_job.proofs.laws_of_machine.ample_steps_are_computed.Goals as goal

pub returns : goal.returns
returns c = computed_result
