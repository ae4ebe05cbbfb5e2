use Rattle.bq_job.proofs.JoinLemmas.{joined}
use Rattle.bq_job.proofs.laws_of_clients.parts_join.Goals as goal

pub returns : goal.returns
returns c = joined
