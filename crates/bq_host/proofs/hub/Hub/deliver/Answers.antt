use Rattle.std.proofs.Common.{◌∙◌, ap, arith}
use Rattle.bq_host.specs.Hubs.{state_of}
use Rattle.bq_host.proofs.WakeLemmas.{delivered_put, wakes_full, wakes_put}
use Rattle.bq_host.proofs.hub.Hub.deliver.Goals as goal

pub returns-in-Err-clause-wakes : goal.returns-in-Err-clause-wakes
returns-in-Err-clause-wakes g c =
    wakes_full c.args.self.now.mails.items c.loop-seat.self.mails.items c.next_pending.new.self.mails.items c.post.new.mails.items
    c.args.self.now.wake_queue c.loop-seat.self.wake_queue c.next_pending.new.self.wake_queue c.post.new.wake_queue c.in-Some.seat
    c.loop-seat.invariant.wakes (ap (λ h. h.mails.items) c.next_pending.ensures.rest) (ap (λ h. h.wake_queue) c.next_pending.ensures.rest)
    c.in-Err.ensures.posted.1 c.post.ensures.wake_queue

pub loop-seat-preserved : goal.loop-seat-preserved
loop-seat-preserved g c =
    let state = state_of g.K.QueueCore in
    let rest = c.next_pending.ensures.rest in
    let i = c.loop-seat.invariant in
    record {
      delivered = delivered_put (state c.args.self.now) (state c.loop-seat.self) (state c.next_pending.new.self) _ _ c.post.new.mails.items
          c.in-Some.seat c.in-Some.answer i.delivered (ap state rest) c.in-Some.ensures.pending c.post.ensures.many
          c.in_default-post.ensures.posted;
      clock = ap (λ h. h.timed.time.clock) rest ∙ i.clock;
      only = grind arith;
      wakes = wakes_put c.args.self.now.mails.items c.loop-seat.self.mails.items c.next_pending.new.self.mails.items c.post.new.mails.items
          c.args.self.now.wake_queue c.loop-seat.self.wake_queue c.next_pending.new.self.wake_queue c.post.new.wake_queue c.in-Some.seat
          c.in-Some.answer
          i.wakes (ap (λ h. h.mails.items) rest) (ap (λ h. h.wake_queue) rest)
          c.post.ensures.many c.in_default-post.ensures.posted c.post.ensures.wake_queue;
    }
