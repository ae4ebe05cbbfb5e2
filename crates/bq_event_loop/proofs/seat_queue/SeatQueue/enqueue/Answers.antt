use Rattle.std.proofs.Common.{arith, ap, refl, rules}
use Rattle.std.proofs.lemmas.Grind.{common_steps}
use Rattle.bq_host.proofs.MarkLemmas.{room}
use Rattle.bq_event_loop.specs.Listings.{is_queued}
use Rattle.bq_event_loop.specs.declared.seat_queue.Listed.TheVariants as lists
use Rattle.bq_event_loop.proofs.KnownLemmas.{keeps_enqueued}
use Rattle.bq_event_loop.proofs.seat_queue.SeatQueue.enqueue.Goals as goal

pub push_back_reserved-requires : goal.push_back_reserved-requires
push_back_reserved-requires c =
    let m = c.mark.ensures.marked c.if-mark.true in
    let less = room is_queued lists.Nowhere _ _ _ lists.Queued c.self.invariant.0.0 m.0 (ap is_queued m.1) refl in
    grind (arith, common_steps, less, c.self.invariant.1)

pub returns-then-mark-clause-keeps : goal.returns-then-mark-clause-keeps
returns-then-mark-clause-keeps c = keeps_enqueued (search rules)

pub returns-else-mark-clause-keeps : goal.returns-else-mark-clause-keeps
returns-else-mark-clause-keeps c = keeps_enqueued (search rules)
