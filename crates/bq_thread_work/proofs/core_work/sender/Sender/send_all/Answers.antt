use Rattle.std.proofs.Common.{arith}
use Rattle.bq_thread_work.proofs.SendingLemmas.{sent_before, sent_next}
use Rattle.bq_thread_work.proofs.core_work.sender.Sender.send_all.Goals as goal

pub loop-self-init : goal.loop-self-init
loop-self-init c = search sent_before

pub loop-self-preserved : goal.loop-self-preserved
loop-self-preserved c =
    let sent = sent_next _ _ _ _ c.loop-self.self.kept.items _ _ _ _ c.loop-self.invariant.sent c.in-Some.ensures.oldest
    c.send_or_keep.ensures.sent in
    grind arith
