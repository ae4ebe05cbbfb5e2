use Rattle.std.proofs.Common.{rules, arith}
use Rattle.std.proofs.lemmas.Grind.{common_steps}
use Rattle.bq_link.proofs.DeliveryLemmas.{compares}
use Rattle.bq_link.proofs.PassLemmas.{blanks, joins, parts}
use Rattle.bq_link.proofs.SubmissionLemmas.{of_joined}
use Rattle.bq_link.proofs.ends.CoreEnd.compare.Goals as goal

pub another-blank-requires-clause-rule : goal.another-blank-requires-clause-rule
another-blank-requires-clause-rule g c = blanks _ _ _

pub absorb-requires-clause-rule : goal.absorb-requires-clause-rule
absorb-requires-clause-rule g c = joins _ _ _ _ _ (search rules) (search rules)

pub learn_as-requires-clause-rule : goal.learn_as-requires-clause-rule
learn_as-requires-clause-rule g c = compares _ _ _ (search rules) (search rules)

pub another-requires-clause-rule : goal.another-requires-clause-rule
another-requires-clause-rule g c = parts _ _ _ (search rules) (search rules)

pub returns-clause-waits : goal.returns-clause-waits
returns-clause-waits g c = grind (arith, common_steps, of_joined)
