use Rattle.std.proofs.Common.{◌≡◌}
use Rattle.bq_thread_work.proofs.core_work.core_driver.CoreDriver.look_often.Given as goal

abbrev pub invariant-loop : goal.invariant-loop
invariant-loop g l = l.self ≡ l.fn.self
