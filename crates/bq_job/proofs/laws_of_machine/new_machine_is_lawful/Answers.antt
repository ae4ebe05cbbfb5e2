use Rattle.bq_job.proofs.LawfulLemmas.{new_is_lawful}
use Rattle.bq_job.proofs.laws_of_machine.new_machine_is_lawful.Goals as goal

pub returns : goal.returns
returns c = new_is_lawful
