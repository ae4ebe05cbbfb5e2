use Rattle.bq_link.proofs.PassLemmas.{makes}
use Rattle.bq_link.proofs.ends.CoreEnd.next_end.Goals as goal

-- Without this answer a search fails first, which takes seconds.
pub another-pass-requires-clause-rule : goal.another-pass-requires-clause-rule
another-pass-requires-clause-rule g c = makes _ _ _ c.self.invariant.takes
