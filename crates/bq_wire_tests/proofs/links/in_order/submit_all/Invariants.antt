-- the end stays with its intake
use Rattle.std.proofs.Common.{◌≡◌}
use Rattle.bq_wire_tests.proofs.links.in_order.submit_all.Given as goal

abbrev pub invariant-loop-id : goal.invariant-loop-id
invariant-loop-id g l = l.end.intake ≡ l.fn.end.intake
