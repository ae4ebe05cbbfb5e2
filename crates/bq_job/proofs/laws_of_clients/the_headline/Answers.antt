use Rattle.bq_job.proofs.HeadlineLemmas.{jobs_served_in}
use Rattle.bq_job.proofs.laws_of_clients.the_headline.Goals as goal

pub returns-clause-jobs : goal.returns-clause-jobs
returns-clause-jobs c = jobs_served_in
