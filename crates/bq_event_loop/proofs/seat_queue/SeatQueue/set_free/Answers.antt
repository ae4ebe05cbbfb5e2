use Rattle.std.proofs.Common.{arith, ap, refl}
use Rattle.std.proofs.lemmas.Grind.{common_steps}
use Rattle.bq_host.proofs.MarkLemmas.{room}
use Rattle.bq_event_loop.specs.Listings.{is_free}
use Rattle.bq_event_loop.specs.declared.seat_queue.Listed.TheVariants as lists
use Rattle.bq_event_loop.proofs.seat_queue.SeatQueue.set_free.Goals as goal

pub push_reserved-requires : goal.push_reserved-requires
push_reserved-requires c =
    let m = c.mark.ensures.marked c.if-mark.true in
    let less = room is_free lists.Nowhere _ _ _ lists.Free c.self.invariant.0.1 m.0 (ap is_free m.1) refl in
    grind (arith, common_steps, less, c.self.invariant.2)
