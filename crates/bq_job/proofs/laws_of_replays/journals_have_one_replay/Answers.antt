use Rattle.bq_job.proofs.ReplayLemmas.{one_replay}
use Rattle.bq_job.proofs.laws_of_replays.journals_have_one_replay.Goals as goal

pub returns : goal.returns
returns c = one_replay
