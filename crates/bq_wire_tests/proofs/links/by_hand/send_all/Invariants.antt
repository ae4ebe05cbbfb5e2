-- the end's identity does not change
use Rattle.bq_link.specs.EndStates.{IsSameCore}
use Rattle.bq_wire_tests.proofs.links.by_hand.send_all.Given as goal

abbrev pub invariant-loop-id : goal.invariant-loop-id
invariant-loop-id l = IsSameCore l.fn.core l.core
