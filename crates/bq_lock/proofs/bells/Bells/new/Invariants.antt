use Rattle.std.proofs.Common.{◌≡◌, ◌≤◌, vec_capacity, vec_len}
use Rattle.bq_lock.proofs.bells.Bells.new.Given as goal

abbrev pub invariant-loop : goal.invariant-loop
invariant-loop l = record {
  many : vec_len l.bells ≡ l.counter;
  within : l.counter ≤ l.fn.seats;
  room : l.fn.seats ≤ vec_capacity l.bells;
}
