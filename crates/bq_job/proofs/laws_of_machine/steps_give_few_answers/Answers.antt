use Rattle.bq_job.proofs.LawfulLemmas.{few_answers}
use Rattle.bq_job.proofs.laws_of_machine.steps_give_few_answers.Goals as goal

pub returns : goal.returns
returns c = few_answers
