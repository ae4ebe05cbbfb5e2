use Rattle.bq_event_loop.proofs.KnownLemmas.{keeps_any, keeps_freed}
use Rattle.bq_event_loop.proofs.order.Order.note_tried.Goals as goal

pub returns-then-is_this : goal.returns-then-is_this
returns-then-is_this c = keeps_freed (c.is_this.ensures c.if-is_this.true) c.set_free.ensures

pub returns-else-is_this : goal.returns-else-is_this
returns-else-is_this c = keeps_any c.enqueue.ensures.keeps
