use Rattle.bq_jobs.proofs.Changes.{chosen_has_its_id}
use Rattle.bq_jobs.proofs.laws.chosen_has_its_id.Goals as goal

pub returns : goal.returns
returns c = chosen_has_its_id
