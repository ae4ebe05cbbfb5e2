use Rattle.std.proofs.Common.{arith}
use Rattle.bq_lock.proofs.locked_desk.LockedDesk.serve.Goals as goal

pub returns-clause-served : goal.returns-clause-served
returns-clause-served g c = (c.step-rings.new.self, c.step-rings.ensures.taken, c.fetch.ensures.oldest, grind arith)
