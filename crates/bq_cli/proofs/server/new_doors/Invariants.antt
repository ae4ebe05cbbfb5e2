use Rattle.std.proofs.Common.{◌≡◌, ◌≤◌, vec_capacity, vec_len}
use Rattle.std.specs.List.{All}
use Rattle.bq_line.specs.Tending.{IsNewDoor}
use Rattle.bq_cli.specs.Servers.{IsDoorAt}
use Rattle.bq_cli.proofs.server.new_doors.Given as goal

abbrev pub invariant-loop : goal.invariant-loop
invariant-loop g l = record {
  many : vec_len l.doors ≡ l.counter;
  within : l.counter ≤ l.fn.options.seats;
  room : l.fn.options.seats ≤ vec_capacity l.doors;
  new : All (λ d. IsNewDoor (record { is_out = d.is_out; is_at_end = d.is_at_end; lines_over = d.over })) l.doors.items;
  at : All (λ d. IsDoorAt l.fn.listener l.fn.options.sessions d) l.doors.items;
}
