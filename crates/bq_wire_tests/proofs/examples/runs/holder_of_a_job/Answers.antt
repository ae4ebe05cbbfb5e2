use Rattle.std.proofs.Common.{arith, refl}
use Rattle.bq_wire_tests.proofs.examples.runs.holder_of_a_job.Goals as goal

pub returns : goal.returns
returns c = (_, (0, omega arith, refl), refl, refl)
