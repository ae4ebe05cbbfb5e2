use Rattle.std.proofs.Common.{◌≡◌, ◌≤◌, ◌+◌, ◌++◌, length, map, vec_capacity, vec_len}
use Rattle.bq_host.proofs.crew.start_crew.Given as goal

abbrev pub invariant-loop-member : goal.invariant-loop-member
invariant-loop-member g l = record {
  room : vec_len l.threads + length l.member-iterator.rest.items ≤ vec_capacity l.threads;
  for_backs : vec_len l.threads + length l.member-iterator.rest.items ≤ vec_capacity l.fn.crew.backs;
  whole : map (λ t. t.promise.member.value) l.threads.items ++ l.member-iterator.rest.items ≡ l.fn.crew.members.items;
}
