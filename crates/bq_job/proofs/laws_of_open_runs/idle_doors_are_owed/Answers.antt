use Rattle.bq_job.proofs.OpenRunLemmas.{idle_door_owed}
use Rattle.bq_job.proofs.laws_of_open_runs.idle_doors_are_owed.Goals as goal

pub returns : goal.returns
returns c settings readings history given last seat door run = idle_door_owed settings history given last run.runs seat door
