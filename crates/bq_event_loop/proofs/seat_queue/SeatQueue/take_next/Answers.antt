use Rattle.std.proofs.Common.{arith}
use Rattle.std.proofs.lemmas.List.{length-set}
use Rattle.bq_event_loop.proofs.ListingLemmas.{left_queue}
use Rattle.bq_event_loop.proofs.seat_queue.SeatQueue.take_next.Goals as goal

pub unmark-requires : goal.unmark-requires
unmark-requires c = (left_queue c.in_ok-seat.ensures.items c.self.invariant.0).0

pub invariant_of-self-2 : goal.invariant_of-self-2
invariant_of-self-2 c = grind (arith, length-set, left_queue c.in_ok-seat.ensures.items c.self.invariant.0)
