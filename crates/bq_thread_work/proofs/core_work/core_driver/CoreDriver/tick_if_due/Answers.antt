use Rattle.std.proofs.Common.{arith}
use Rattle.bq_thread_work.proofs.TurnLemmas.{on_passed}
use Rattle.bq_thread_work.proofs.core_work.core_driver.CoreDriver.tick_if_due.Goals as goal

pub returns-clause-on : goal.returns-clause-on
returns-clause-on g c =
    grind (arith, on_passed g.K.QueueCore g.C.Clock c.args.self.now c.tick_if_due.new.self c.tick_if_due.result)
