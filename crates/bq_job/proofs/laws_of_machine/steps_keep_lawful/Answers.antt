use Rattle.bq_job.proofs.LawfulLemmas.{step_is_lawful}
use Rattle.bq_job.proofs.laws_of_machine.steps_keep_lawful.Goals as goal

pub returns : goal.returns
returns c = step_is_lawful
