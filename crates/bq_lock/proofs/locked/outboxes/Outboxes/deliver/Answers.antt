use Rattle.std.proofs.Common.{arith}
use Rattle.bq_lock.proofs.DeliveryLemmas.{delivering_one}
use Rattle.bq_lock.proofs.locked.outboxes.Outboxes.deliver.Goals as goal

pub loop-seat-preserved : goal.loop-seat-preserved
loop-seat-preserved c =
    let next = delivering_one _ _ (c.in-Some.seat, c.in-Some.answer) _ _ _ _ _ c.loop-seat.invariant.delivering c.in-Some.ensures.oldest
    c.post.ensures in
    grind arith
