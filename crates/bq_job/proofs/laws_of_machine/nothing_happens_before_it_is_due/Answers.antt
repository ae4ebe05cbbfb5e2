use Rattle.bq_job.proofs.QuietLemmas.{tick_is_idle}
use Rattle.bq_job.proofs.laws_of_machine.nothing_happens_before_it_is_due.Goals as goal

pub returns : goal.returns
returns c = λ first last at seat outcome given lawful early step. tick_is_idle first at lawful early last seat outcome given step
