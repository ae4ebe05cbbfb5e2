use Rattle.std.proofs.Common.{arith}
use Rattle.bq_lock.proofs.locked_desk.LockedDesk.look.Goals as goal

pub returns-in-Some-clause-looked : goal.returns-in-Some-clause-looked
returns-in-Some-clause-looked g c = (c.tick_if_due-rest.new.self, c.tick_if_due-rest.ensures.passed, grind arith, grind arith)

pub returns-in-None-clause-looked : goal.returns-in-None-clause-looked
returns-in-None-clause-looked g c = (c.tick_if_due-rest.new.self, c.tick_if_due-rest.ensures.passed, grind arith, grind arith)
