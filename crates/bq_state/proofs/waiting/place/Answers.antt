use Rattle.std.proofs.Common.{arith}
use Rattle.std.proofs.lemmas.List.Sums.{prefix_len-le-length}
use Rattle.bq_state.{proofs.{NameLemmas.when_ok, WaitingLemmas.placed_at}, specs.WaitingList.is_waiter_before}
use Rattle.bq_state.proofs.waiting.place.Goals as goal

pub insert-fits-requires : goal.insert-fits-requires
insert-fits-requires c = rw (c.place_of-i.ensures, ← c.as_slice.ensures.len) (prefix_len-le-length _ _)

pub returns-clause-waiters : goal.returns-clause-waiters
returns-clause-waiters c = grind (arith, when_ok, placed_at is_waiter_before c.args.waiter c.args.waiters.now.items)
