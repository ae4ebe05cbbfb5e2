use Rattle.bq_event_loop.proofs.RowLemmas.{placed_there}
use Rattle.bq_event_loop.proofs.ServingLemmas.{acted}
use Rattle.bq_event_loop.proofs.serve.act.Goals as goal

pub attend-requires-clause-placed : goal.attend-requires-clause-placed
attend-requires-clause-placed g c = search placed_there

pub returns : goal.returns
returns g c = search acted
