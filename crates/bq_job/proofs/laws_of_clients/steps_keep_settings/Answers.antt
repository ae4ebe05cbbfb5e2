use Rattle.bq_job.proofs.ClientStepLemmas.{step_settings}
use Rattle.bq_job.proofs.laws_of_clients.steps_keep_settings.Goals as goal

pub returns : goal.returns
returns c = step_settings
