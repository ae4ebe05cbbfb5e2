use Rattle.std.proofs.Common.{◌≡◌, ◌≤◌, length, vec_capacity, vec_len}
use Rattle.bq_link.proofs.making.bells.Given as goal

abbrev pub invariant-loop-number : goal.invariant-loop-number
invariant-loop-number l = record {
  many : length l.bells.items ≡ l._number;
  len : vec_len l.bells ≡ l._number;
  room : l.ends ≤ vec_capacity l.bells;
}
