use Rattle.bq_jobs.proofs.NamedJobs.{registered_left}
use Rattle.bq_state.proofs.tubes.walks.drop_tube.Goals as goal

pub returns-clause-stored : goal.returns-clause-stored
returns-clause-stored c = search registered_left
