use Rattle.bq_job.proofs.BeginningLemmas.{begins_in, texts_more, ended_begins}
use Rattle.std.proofs.Common.{arith}
use Rattle.std.proofs.lemmas.Grind.{common_steps}
use Rattle.bq_job.proofs.laws_of_open_runs.what_was_written_stays_right.Goals as goal

pub returns-clause-open : goal.returns-clause-open
returns-clause-open c = grind (arith, texts_more, begins_in, common_steps)

pub returns-clause-over : goal.returns-clause-over
returns-clause-over c = grind (arith, begins_in, ended_begins, common_steps)
