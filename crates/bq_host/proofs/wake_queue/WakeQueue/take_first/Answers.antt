use Rattle.std.proofs.Common.{arith, false, refl, subst, []}
use Rattle.std.proofs.lemmas.Grind.{common_steps}
use Rattle.bq_host.proofs.MarkLemmas.{left, within}
use Rattle.bq_host.specs.Marks.{HasMarks}
use Rattle.bq_host.proofs.wake_queue.WakeQueue.take_first.Goals as goal

pub unmark-requires : goal.unmark-requires
unmark-requires c =
    rw c.from.ensures (within (λ mark. mark) false [] c.pop_front.new.self.items c.self.inside.marks.items c.in_ok-seat.seat refl
    (subst (λ z. HasMarks (λ mark. mark) false z c.self.inside.marks.items) c.in_ok-seat.ensures.items c.self.invariant.0))

pub invariant_of-self-2 : goal.invariant_of-self-2
invariant_of-self-2 c =
    let seat_below = within (λ mark. mark) false [] c.pop_front.new.self.items c.self.inside.marks.items c.in_ok-seat.seat refl
    (subst (λ z. HasMarks (λ mark. mark) false z c.self.inside.marks.items) c.in_ok-seat.ensures.items c.self.invariant.0) in
    let after = left (λ mark. mark) false [] c.pop_front.new.self.items c.self.inside.marks.items c.in_ok-seat.seat false
    (subst (λ z. HasMarks (λ mark. mark) false z c.self.inside.marks.items) c.in_ok-seat.ensures.items c.self.invariant.0)
    seat_below refl in
    grind (arith, common_steps)
