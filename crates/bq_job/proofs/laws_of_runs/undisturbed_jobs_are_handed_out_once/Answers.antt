use Rattle.bq_job.proofs.OrderLemmas.{at_most_once}
use Rattle.bq_job.proofs.laws_of_runs.undisturbed_jobs_are_handed_out_once.Goals as goal

pub returns : goal.returns
returns c = at_most_once
