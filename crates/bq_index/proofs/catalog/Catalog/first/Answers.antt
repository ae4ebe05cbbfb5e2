use Rattle.std.proofs.Common.{arith}
use Rattle.bq_index.proofs.catalog.Catalog.first.Goals as goal

pub returns-clause-entry : goal.returns-clause-entry
returns-clause-entry g c = grind arith
