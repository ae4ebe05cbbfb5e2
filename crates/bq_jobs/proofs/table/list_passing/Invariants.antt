-- the names so far, and room for the others
use Rattle.std.proofs.Common.{◌≡◌, ◌≤◌, filter, length, map, take, vec_capacity, vec_len}
use Rattle.std.specs.Map.{keys_of}
use Rattle.bq_index.specs.Walk.{entry_of, passes_by}
use Rattle.bq_jobs.proofs.table.list_passing.Given as goal

abbrev pub invariant-loop-i : goal.invariant-loop-i
invariant-loop-i g l = record {
  names : map (λ n. n.now) l.names.items ≡ keys_of (filter (passes_by (g.T.Test.passed l.test)) (map entry_of (take l.i l.listed)));
  len : vec_len l.names ≤ l.i;
  room : length l.listed ≤ vec_capacity l.names;
}
