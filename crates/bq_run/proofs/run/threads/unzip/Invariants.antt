use Rattle.std.proofs.Common.{◌≡◌, ◌+◌, ◌<◌, ◌≤◌, ◌++◌, length, map, vec_capacity, vec_len}
use Rattle.bq_run.proofs.run.threads.unzip.Given as goal

abbrev pub invariant-loop-end : goal.invariant-loop-end
invariant-loop-end g l = record {
  for_ends : vec_len l.ends + length l.end-iterator.rest.items < vec_capacity l.ends;
  for_doors : vec_len l.doors + length l.end-iterator.rest.items ≤ vec_capacity l.doors;
  ends : l.ends.items ++ map (λ back. back.0) l.end-iterator.rest.items ≡ map (λ back. back.0) l.fn.backs.items;
  doors : l.doors.items ++ map (λ back. back.1) l.end-iterator.rest.items ≡ map (λ back. back.1) l.fn.backs.items;
}
