use Rattle.std.proofs.{Common.arith, lemmas.{Grind.common_steps, List.Sums.prefix_len-le-length}}
use Rattle.bq_state.proofs.NameLemmas.{placed}
use Rattle.bq_state.proofs.name_lists.add.Goals as goal

pub insert-fits-requires : goal.insert-fits-requires
insert-fits-requires c = grind (arith, prefix_len-le-length)

pub returns-then-not-is_at-clause-names : goal.returns-then-not-is_at-clause-names
returns-then-not-is_at-clause-names c = grind (arith, common_steps, placed c.args.name c.args.names.now.items)

pub returns-else-not-is_at-clause-names : goal.returns-else-not-is_at-clause-names
returns-else-not-is_at-clause-names c =
    let there = rw (c.place_of-i.ensures, c.as_slice.ensures.value, c.as_slice-2.ensures.value) at c.if-not-is_at.ensures in
    rw (← there) at (placed c.args.name c.args.names.now.items)
