use Rattle.bq_job.proofs.ClientStepLemmas.{step_gives_client}
use Rattle.bq_job.proofs.laws_of_machine.steps_give_clients_their_answers.Goals as goal

pub returns : goal.returns
returns c = step_gives_client
