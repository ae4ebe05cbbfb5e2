use Rattle.std.proofs.Common.{◌≤◌, ◌+◌, length, map, vec_capacity, vec_len}
use Rattle.bq_host.proofs.ListLemmas.{IsAlong}
use Rattle.bq_host.proofs.crew.join_crew.Given as goal

abbrev pub invariant-loop-thread : goal.invariant-loop-thread
invariant-loop-thread g l = record {
  room : vec_len l.backs + length l.thread-iterator.rest.items ≤ vec_capacity l.backs;
  along : IsAlong g.M.Member.gives (map (λ t. t.promise.member.value) l.fn.work.threads.items)
      (map (λ t. t.promise.member.value) l.thread-iterator.rest.items) l.backs.items;
}
