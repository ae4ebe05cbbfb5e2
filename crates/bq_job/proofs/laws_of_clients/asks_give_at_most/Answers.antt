use Rattle.bq_job.proofs.ClientStepLemmas.{asks_at_most}
use Rattle.bq_job.proofs.laws_of_clients.asks_give_at_most.Goals as goal

pub returns : goal.returns
returns c = asks_at_most
