use Rattle.std.proofs.Common.{arith}
use Rattle.bq_link.proofs.DeliveryLemmas.{submits, waits}
use Rattle.bq_link.proofs.ends.SeatEnd.submit.Goals as goal

pub push_as-requires-clause-rule : goal.push_as-requires-clause-rule
push_as-requires-clause-rule g c =
    (submits _ _ _ _ _ _ c.self.invariant.submits c.self.invariant.number (grind arith), waits _ _ _ c.self.invariant.submits)
