use Rattle.std.proofs.Common.{arith}
use Rattle.bq_thread_work.proofs.SendingLemmas.{sent_next}
use Rattle.bq_thread_work.proofs.core_work.sender.Sender.try_again.Goals as goal

pub loop-seat-preserved : goal.loop-seat-preserved
loop-seat-preserved c =
    let sent = sent_next _ _ _ _ c.loop-seat.self.kept.items _ _ _ _ c.loop-seat.invariant.sent c.in-Some.ensures.items
    c.send_or_keep.ensures.sent in
    grind arith
