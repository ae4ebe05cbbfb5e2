use Rattle.bq_job.proofs.OwnAnswerLemmas.{refused_is_tick}
use Rattle.bq_job.proofs.laws_of_machine.refused_commands_change_nothing.Goals as goal

pub returns : goal.returns
returns c = refused_is_tick
