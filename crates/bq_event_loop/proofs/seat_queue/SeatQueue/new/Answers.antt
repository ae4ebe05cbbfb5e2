use Rattle.std.proofs.Common.{arith}
use Rattle.std.proofs.lemmas.Grind.{common_steps}
use Rattle.std.proofs.lemmas.List.{length-replicate}
use Rattle.bq_event_loop.proofs.ListingLemmas.{new_marked}
use Rattle.bq_event_loop.proofs.seat_queue.SeatQueue.new.Goals as goal

pub invariant_of-result : goal.invariant_of-result
invariant_of-result c =
    let marks = c.in_ok-from_elem.ensures.items_if_clones_equal (λ y same. same) in (
      new_marked c.args.seats _ _ _ c.in_ok-with_capacity.ensures.items c.in_ok-all_seats.ensures.all marks,
      grind (arith, common_steps, marks, c.in_ok-with_capacity.ensures.capacity, length-replicate),
      grind (arith, common_steps, marks, c.in_ok-all_seats.ensures.room, length-replicate),
      omega arith,
      omega arith,
    )
