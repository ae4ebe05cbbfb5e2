use Rattle.std.proofs.Common.{refl}
use Rattle.bq_index.specs.Digits.{binary_digits}
use Rattle.bq_core_tests.proofs.jobs.shelves.comparisons.digits_by_hand.Goals as goal

pub returns-clause-below : goal.returns-clause-below
unfolding binary_digits
returns-clause-below c = refl

pub returns-clause-above : goal.returns-clause-above
unfolding binary_digits
returns-clause-above c = refl

pub returns-clause-many : goal.returns-clause-many
unfolding binary_digits
returns-clause-many c = refl
