use Rattle.bq_link.proofs.DeliveryLemmas.{covered, takes}
use Rattle.bq_link.proofs.ends.CoreEnd.take.Goals as goal

pub pop_as-requires-clause-rule : goal.pop_as-requires-clause-rule
pop_as-requires-clause-rule g c = (takes _ _ _ c.self.invariant.takes c.requires.may, covered _ _ _ c.self.invariant.takes)
