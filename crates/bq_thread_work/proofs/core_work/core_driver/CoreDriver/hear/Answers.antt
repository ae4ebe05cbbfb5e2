use Rattle.bq_thread_work.proofs.TurnLemmas.{on_heard}
use Rattle.bq_thread_work.proofs.core_work.core_driver.CoreDriver.hear.Goals as goal

pub returns-clause-on : goal.returns-clause-on
returns-clause-on g c = search on_heard
