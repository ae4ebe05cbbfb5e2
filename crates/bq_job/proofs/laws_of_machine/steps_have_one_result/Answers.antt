use Rattle.bq_job.proofs.OutcomeLemmas.{one_result}
use Rattle.bq_job.proofs.laws_of_machine.steps_have_one_result.Goals as goal

pub returns : goal.returns
returns c = one_result
