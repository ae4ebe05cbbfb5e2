use Rattle.bq_job.proofs.JoinLemmas.{line_joined}
use Rattle.bq_job.proofs.laws_of_clients.line_joins.Goals as goal

pub returns : goal.returns
returns c = line_joined
