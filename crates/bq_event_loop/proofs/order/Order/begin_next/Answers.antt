use Rattle.std.proofs.Common.{refl}
use Rattle.bq_event_loop.proofs.KnownLemmas.{chooses_next, chooses_then, keeps_same}
use Rattle.bq_event_loop.proofs.order.Order.begin_next.Goals as goal

pub returns : goal.returns
returns c = chooses_next c.in-Some.ensures refl c.new-self.ensures.seat c.turn.ensures

pub returns-in_default : goal.returns-in_default
returns-in_default c = chooses_then (keeps_same c.in_default.ensures.0) c.end_part.ensures
