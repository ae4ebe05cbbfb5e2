-- the end stays with its intake
use Rattle.std.proofs.Common.{◌≡◌}
use Rattle.bq_wire_tests.proofs.links.in_order.take_all.Given as goal

abbrev pub invariant-loop : goal.invariant-loop
invariant-loop g l = l.core.intake ≡ l.fn.core.intake
