use Rattle.bq_thread_work.proofs.TurnLemmas.{on_paced}
use Rattle.bq_thread_work.proofs.core_work.core_driver.CoreDriver.give_way.Goals as goal

pub returns-then-is_yield_next-clause-on : goal.returns-then-is_yield_next-clause-on
returns-then-is_yield_next-clause-on g c = search on_paced
