use Rattle.std.proofs.Common.{◌≡◌, ◌≤◌, vec_capacity, vec_len}
use Rattle.std.specs.List.{All}
use Rattle.bq_line.specs.Tending.{IsNewSeat}
use Rattle.bq_host.proofs.seats.new_seats.Given as goal

abbrev pub invariant-loop : goal.invariant-loop
invariant-loop g l = record {
  many : vec_len l.all ≡ l.counter;
  new : All (IsNewSeat l.fn.max_job_size) l.all.items;
  within : l.counter ≤ l.fn.seats;
  room : l.fn.seats ≤ vec_capacity l.all;
}
