use Rattle.bq_job.proofs.OrderLemmas.{in_order}
use Rattle.bq_job.proofs.laws_of_runs.undisturbed_jobs_are_handed_out_in_order.Goals as goal

pub returns : goal.returns
returns c = in_order
