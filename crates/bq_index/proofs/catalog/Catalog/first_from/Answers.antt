use Rattle.std.proofs.Common.{arith}
use Rattle.bq_index.proofs.catalog.Catalog.first_from.Goals as goal

pub returns : goal.returns
returns g c = grind arith
