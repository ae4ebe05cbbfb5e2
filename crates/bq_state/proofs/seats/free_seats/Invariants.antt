-- the seats so far, and room for all of them
use Rattle.std.proofs.Common.{map, vec_capacity, vec_len, ◌≡◌, ◌≤◌}
use Rattle.bq_job.specs.machine.{empty_seat, numbers}
use Rattle.bq_state.proofs.seats.free_seats.Given as goal

abbrev pub invariant-loop-number : goal.invariant-loop-number
invariant-loop-number l = record {
  seats : l.seats.items ≡ map empty_seat (numbers 0 l.number);
  len : vec_len l.seats ≡ l.number;
  room : l.count ≤ vec_capacity l.seats;
}
