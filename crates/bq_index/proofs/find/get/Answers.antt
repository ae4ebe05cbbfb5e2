use Rattle.std.proofs.Common.{ap, refl, arith}
use Rattle.bq_index.specs.Tree.{lent}
use Rattle.bq_index.proofs.Parts.{left_in_order, lent_apart, right_in_order, shorter, around}
use Rattle.bq_index.proofs.find.get.Goals as goal

pub loop-below-preserved-in-Less : goal.loop-below-preserved-in-Less
loop-below-preserved-in-Less g c =
    let i = c.loop-below.invariant in
    let p = lent_apart c.in-Some.node.now (ap lent c.in-Some.is) c.left-below.ensures refl i.balanced in
    let w = around g.met.K.Ord.total p i.in_order c.compare_to.ensures.answer in
    grind (arith, left_in_order)

pub loop-below-preserved : goal.loop-below-preserved
loop-below-preserved g c =
    let i = c.loop-below.invariant in
    let p = lent_apart c.in-Some.node.now (ap lent c.in-Some.is) refl c.right-below.ensures i.balanced in
    let w = around g.met.K.Ord.total p i.in_order c.compare_to.ensures.answer in
    grind (arith, right_in_order)

pub returns-in-Equal-clause-value : goal.returns-in-Equal-clause-value
returns-in-Equal-clause-value g c =
    let i = c.loop-below.invariant in
    let p = lent_apart c.in-Some.node.now (ap lent c.in-Some.is) refl refl i.balanced in
    let w = around g.met.K.Ord.total p i.in_order c.compare_to.ensures.answer in
    grind arith

pub returns-in-Equal-clause-counted : goal.returns-in-Equal-clause-counted
returns-in-Equal-clause-counted g c = grind arith

pub loop-below-smaller-in-Less : goal.loop-below-smaller-in-Less
loop-below-smaller-in-Less g c =
    (shorter (lent_apart c.in-Some.node.now (ap lent c.in-Some.is) c.left-below.ensures refl c.loop-below.invariant.balanced)).0

pub loop-below-smaller : goal.loop-below-smaller
loop-below-smaller g c =
    (shorter (lent_apart c.in-Some.node.now (ap lent c.in-Some.is) refl c.right-below.ensures c.loop-below.invariant.balanced)).1
