use Rattle.std.proofs.Common.{arith}
use Rattle.bq_lock.proofs.LockedLemmas.{hold_fetch}
use Rattle.bq_lock.proofs.locked.Locked.fetch.Goals as goal

pub invariant_of-self : goal.invariant_of-self
invariant_of-self g c = (hold_fetch _ _ c.args.seat (grind arith) c.self.invariant.0, c.self.invariant.1, grind arith)

pub returns-clause-holds : goal.returns-clause-holds
returns-clause-holds g c = (invariant_of-self g c).0
