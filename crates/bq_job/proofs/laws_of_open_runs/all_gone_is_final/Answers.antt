use Rattle.bq_job.proofs.OpenRunLemmas.{final_once_gone}
use Rattle.bq_job.proofs.laws_of_open_runs.all_gone_is_final.Goals as goal

pub returns : goal.returns
returns c = final_once_gone
