use Rattle.bq_job.proofs.OpenRunLemmas.{run_begins}
use Rattle.bq_job.proofs.laws_of_open_runs.runs_begin_with_runs.Goals as goal

pub returns : goal.returns
returns c = run_begins
