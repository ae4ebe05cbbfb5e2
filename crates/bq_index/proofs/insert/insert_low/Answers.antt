use Rattle.bq_index.proofs.Parts.{by_other, come_apart, goes_right, hung_right}
use Rattle.std.proofs.Common.{arith}
use Rattle.bq_index.proofs.insert.insert_low.Goals as goal

pub spread-requires : goal.spread-requires
spread-requires g c = grind arith

pub returns-in-OnLeft-clause-is : goal.returns-in-OnLeft-clause-is
returns-in-OnLeft-clause-is g c = grind arith

pub returns-in-OnLeft-clause-counted : goal.returns-in-OnLeft-clause-counted
returns-in-OnLeft-clause-counted g c = grind arith

pub spread-requires-in-OnRight : goal.spread-requires-in-OnRight
spread-requires-in-OnRight g c = grind arith

pub returns-in-OnRight-clause-is : goal.returns-in-OnRight-clause-is
returns-in-OnRight-clause-is g c = grind arith

pub returns-in-OnRight-clause-counted : goal.returns-in-OnRight-clause-counted
returns-in-OnRight-clause-counted g c = grind arith

pub returns-in_default : goal.returns-in_default
returns-in_default g c =
    let at = by_other g.K.Ord.cmp c.key_alone.result.now c.key.result.now _ _ c.key.ensures c.compare_within.ensures.answer in
    grind (arith, come_apart c.args.here.now c.requires.here_level)

pub returns-in_default-here : goal.returns-in_default-here
returns-in_default-here g c =
    let w = goes_right g.met.K.Ord.total _ c.requires.alone.filled (rw c.deref.ensures at c.key_alone.ensures) c.args.here.now
    c.requires.here_level c.requires.in_order c.requires.absent c.key.ensures c.compare_within.ensures.answer c.in-Greater.is in
    let p = come_apart c.args.here.now c.requires.here_level in
    grind (arith, hung_right)

pub unreachable-requires : goal.unreachable-requires
unreachable-requires g c = grind arith
