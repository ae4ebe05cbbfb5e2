use Rattle.bq_job.proofs.ReadsLemmas.{Reads-unique}
use Rattle.bq_job.proofs.laws_of_reading.one_reading_only.Goals as goal

pub returns : goal.returns
returns c = Reads-unique
