use Rattle.bq_link.proofs.DeliveryLemmas.{covered}
use Rattle.bq_link.proofs.ends.CoreEnd.is_empty.Goals as goal

pub is_empty_as-requires-clause-rule : goal.is_empty_as-requires-clause-rule
is_empty_as-requires-clause-rule g c = covered _ _ _ c.self.invariant.takes
