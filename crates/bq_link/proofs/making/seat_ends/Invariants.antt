-- the ends made so far are new, and there is room for the others
use Rattle.std.proofs.Common.{◌≡◌, ◌≤◌, vec_capacity, vec_len}
use Rattle.bq_link.specs.NewEnds.{AreNewSeats, IsNewCore}
use Rattle.bq_link.proofs.making.seat_ends.Given as goal

abbrev pub invariant-loop-number : goal.invariant-loop-number
invariant-loop-number g l = record {
  intake : l.core.intake ≡ l.fn.core.intake;
  core : IsNewCore l._number l.core;
  seats : AreNewSeats l.core l.seats.items;
  many : vec_len l.seats ≡ l._number;
  room : l.ends ≤ vec_capacity l.seats;
}
