use Rattle.std.proofs.Common.{arith}
use Rattle.bq_link.proofs.DeliveryLemmas.{submits}
use Rattle.bq_link.proofs.ends.SeatEnd.submit_in_place.Goals as goal

pub try_push_as-requires-clause-rule : goal.try_push_as-requires-clause-rule
try_push_as-requires-clause-rule g c = submits _ _ _ _ _ _ c.self.invariant.submits c.self.invariant.number (grind arith)
