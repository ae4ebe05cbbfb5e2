use Rattle.bq_jobs.proofs.Shelved.{shelved_with}
use Rattle.bq_jobs.proofs.named_jobs.Jobs.add.Goals as goal

pub invariant_of-self : goal.invariant_of-self
invariant_of-self c = search shelved_with

pub returns-clause-ordered : goal.returns-clause-ordered
returns-clause-ordered c = (invariant_of-self c).ids
