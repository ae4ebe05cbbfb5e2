use Rattle.std.proofs.Common.{arith}
use Rattle.bq_lock.proofs.LockedLemmas.{hold_new}
use Rattle.bq_lock.proofs.locked.Locked.new.Goals as goal

pub invariant_of-result : goal.invariant_of-result
invariant_of-result g c = (hold_new c.args.config c.args.capacity _ (grind arith), grind arith, grind arith)
