use Rattle.bq_event_loop.proofs.KnownLemmas.{chooses_then, keeps_same, same_moved}
use Rattle.bq_event_loop.proofs.order.Order.begin_visits.Goals as goal

pub returns : goal.returns
returns c = search (chooses_then, keeps_same, same_moved)
