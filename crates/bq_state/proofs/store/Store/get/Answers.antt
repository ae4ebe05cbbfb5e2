use Rattle.std.proofs.Common.{arith}
use Rattle.std.proofs.lemmas.Grind.{common_steps}
use Rattle.bq_jobs.proofs.NamedJobs.{counted_as, same_looks, job_named}
use Rattle.bq_state.proofs.store.Store.get.Goals as goal

pub returns : goal.returns
returns c = grind (arith, common_steps, counted_as, same_looks, job_named)
