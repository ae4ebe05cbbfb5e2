use Rattle.bq_job.proofs.KeptJobLemmas.{held_by_one_always}
use Rattle.bq_job.proofs.laws_of_runs.jobs_are_held_by_one_client.Goals as goal

pub returns : goal.returns
returns c = held_by_one_always
