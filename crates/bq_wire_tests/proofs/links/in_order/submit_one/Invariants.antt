-- the end stays with its intake
use Rattle.std.proofs.Common.{◌≡◌}
use Rattle.bq_wire_tests.proofs.links.in_order.submit_one.Given as goal

abbrev pub invariant-loop : goal.invariant-loop
invariant-loop g l = l.end.intake ≡ l.fn.end.intake
