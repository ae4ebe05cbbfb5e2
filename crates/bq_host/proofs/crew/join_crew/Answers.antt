use Rattle.std.proofs.Common.{arith}
use Rattle.std.proofs.lemmas.List.{length-map}
use Rattle.bq_host.proofs.ListLemmas.{along_all}
use Rattle.bq_host.proofs.crew.join_crew.Goals as goal

pub returns : goal.returns
returns g c = grind (arith, along_all, length-map)
