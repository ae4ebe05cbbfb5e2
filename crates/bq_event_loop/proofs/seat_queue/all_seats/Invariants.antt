use Rattle.std.proofs.Common.{◌≡◌, ◌≤◌, ◌++◌, ◌-◌, vec_capacity}
use Rattle.bq_event_loop.specs.Listings.{falling}
use Rattle.bq_event_loop.proofs.seat_queue.all_seats.Given as goal

abbrev pub invariant-loop-behind : goal.invariant-loop-behind
invariant-loop-behind l = record {
  all : falling l.fn.seats ≡ l.free.items ++ falling (l.fn.seats - l.behind);
  room : l.fn.seats ≤ vec_capacity l.free;
}
