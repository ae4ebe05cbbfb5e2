use Rattle.bq_event_loop.proofs.KnownLemmas.{chooses_any, chooses_then, keeps_any, keeps_rests}
use Rattle.bq_event_loop.proofs.order.Order.go_on.Goals as goal

pub returns-then-is_this : goal.returns-then-is_this
returns-then-is_this c = chooses_then (keeps_rests (c.is_this.ensures c.if-is_this.true) c.seat-seat.ensures) c.begin_next.ensures

pub returns-in-Some : goal.returns-in-Some
returns-in-Some c = rw (← c.note.ensures.seat) (chooses_any c.in-Some.ensures)

pub returns-in-None : goal.returns-in-None
returns-in-None c = rw (← c.note.ensures.seat) (chooses_then (keeps_any c.in-None.ensures) c.begin_next-in-None.ensures)
