use Rattle.bq_job.proofs.DispatchLemmas.{reserved_is_least}
use Rattle.bq_job.proofs.laws_of_machine.dispatched_is_least.Goals as goal

pub returns : goal.returns
returns c = reserved_is_least
