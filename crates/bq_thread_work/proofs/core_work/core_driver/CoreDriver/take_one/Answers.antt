use Rattle.std.proofs.Common.{arith}
use Rattle.bq_thread_work.proofs.TurnLemmas.{on_step}
use Rattle.bq_thread_work.proofs.core_work.core_driver.CoreDriver.take_one.Goals as goal

pub returns-in-None-clause-on : goal.returns-in-None-clause-on
returns-in-None-clause-on g c = rw c.in-None.ensures.none at c.tick_if_due.ensures.on

pub returns-in-Some-clause-on : goal.returns-in-Some-clause-on
returns-in-Some-clause-on g c =
    let took = c.take_step.ensures in
    on_step _ _ c.args.self.now c.take_step.new.self _ c.in-Some.taken took.order took.taken took.marked took.sender c.in-Some.ensures.taken
    c.in-Some.ensures.number c.requires.none

pub returns-in-Some-clause-found : goal.returns-in-Some-clause-found
returns-in-Some-clause-found g c = grind arith
