-- the names so far, with those that are left, and room for these
use Rattle.std.proofs.Common.{drop, fold, length, vec_capacity, vec_len, ◌≡◌, ◌≤◌}
use Rattle.bq_job.specs.machine.{in_name_order, with_name}
use Rattle.bq_state.specs.Names.{names_of}
use Rattle.bq_state.proofs.name_lists.in_order.Given as goal

abbrev pub invariant-loop-tube : goal.invariant-loop-tube
invariant-loop-tube l = record {
  names : fold with_name (names_of l.names.items) (drop l.tube-index l.tubes) ≡ in_name_order l.tubes;
  len : vec_len l.names ≤ l.tube-index;
  room : length l.tubes ≤ vec_capacity l.names;
}
