use Rattle.std.specs.Option.{option_or}
use Rattle.std.proofs.Common.{◌≡◌, Option, Some, ap, refl, sym, ◌∙◌, arith}
use Rattle.bq_index.specs.Tree.{lent}
use Rattle.bq_index.proofs.Parts.{around, left_in_order, lent_apart, right_in_order, shorter}
use Rattle.bq_index.proofs.find.next_from.Goals as goal

-- the result is the one found further down, or else the entry here
further_or_here : {A : Type 0} (whole here down : Option A) (x : A) (met : Option A) → whole ≡ option_or here met
    → here ≡ option_or down (Some x) → whole ≡ option_or down (Some x)
further_or_here whole here down x met e d = grind arith

pub loop-below-preserved-in-Less : goal.loop-below-preserved-in-Less
loop-below-preserved-in-Less g c =
    let i = c.loop-below.invariant in
    let p = lent_apart c.in-Some.node.now (ap lent c.in-Some.is) c.left-below.ensures refl i.balanced in
    let w = around g.met.K.Ord.total p i.in_order c.compare_to.ensures.answer in
    let same = further_or_here _ _ _ _ _ i.same (rw c.in-Less.is at w.first ∙ ap (option_or _) (sym c.entry.ensures)) in
    grind (arith, left_in_order)

pub loop-below-preserved : goal.loop-below-preserved
loop-below-preserved g c =
    let i = c.loop-below.invariant in
    let p = lent_apart c.in-Some.node.now (ap lent c.in-Some.is) refl c.right-below.ensures i.balanced in
    let w = around g.met.K.Ord.total p i.in_order c.compare_to.ensures.answer in
    grind (arith, right_in_order)

pub returns-in-Equal-clause-entry : goal.returns-in-Equal-clause-entry
returns-in-Equal-clause-entry g c =
    let i = c.loop-below.invariant in
    let p = lent_apart c.in-Some.node.now (ap lent c.in-Some.is) refl refl i.balanced in
    let w = around g.met.K.Ord.total p i.in_order c.compare_to.ensures.answer in
    grind arith

pub returns-in-Equal-clause-counted : goal.returns-in-Equal-clause-counted
returns-in-Equal-clause-counted g c = grind arith

pub loop-below-smaller-in-Less : goal.loop-below-smaller-in-Less
loop-below-smaller-in-Less g c =
    (shorter (lent_apart c.in-Some.node.now (ap lent c.in-Some.is) c.left-below.ensures refl c.loop-below.invariant.balanced)).0

pub loop-below-smaller : goal.loop-below-smaller
loop-below-smaller g c =
    (shorter (lent_apart c.in-Some.node.now (ap lent c.in-Some.is) refl c.right-below.ensures c.loop-below.invariant.balanced)).1
