use Rattle.std.proofs.Common.{arith, refl, true, false}
use Rattle.std.proofs.lemmas.Grind.{common_steps}
use Rattle.bq_host.proofs.MarkLemmas.{room}
use Rattle.bq_host.proofs.wake_queue.WakeQueue.add.Goals as goal

pub unwrap-requires : goal.unwrap-requires
unwrap-requires c =
    let m = c.mark.ensures.marked c.if-mark.true in
    let less = room (λ mark. mark) false _ _ _ true c.self.invariant.0 m.0 m.1 refl in
    c.push_back.ensures.succeeds (grind (arith, common_steps, less, c.self.invariant.1))
