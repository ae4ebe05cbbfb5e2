use Rattle.std.proofs.Common.{arith}
use Rattle.bq_index.specs.Walk.{entry_of}
use Rattle.bq_index.proofs.Parts.{left_in_order, right_in_order, shorter}
use Rattle.bq_index.proofs.FirstPassing.{first_here, first_right, from_right}
use Rattle.bq_index.proofs.walk.+first_from.Goals as goal

pub first_from-requires : goal.first_from-requires
first_from-requires g t c =
    grind (arith, shorter c.in_ok-left.ensures.parts, right_in_order g.K.Ord.cmp c.in_ok-left.ensures.parts c.requires.in_order)

pub first_from-requires-2 : goal.first_from-requires-2
first_from-requires-2 g t c =
    grind (arith, shorter c.in_ok-left.ensures.parts, left_in_order g.K.Ord.cmp c.in_ok-left.ensures.parts c.requires.in_order)

pub returns-then-is_gt : goal.returns-then-is_gt
returns-then-is_gt g t c =
    from_right g.met.K.Ord.total c.args.from.now
    (g.T.Test.passed c.args.test.now) c.in_ok-left.ensures.parts c.requires.in_order c.cmp.result c.cmp.ensures
    c.if-is_gt.ensures entry_of c.first_from.result c.first_from.ensures

pub returns-then-passes : goal.returns-then-passes
returns-then-passes g t c =
    first_here g.met.K.Ord.total c.args.from.now
    (g.T.Test.passed c.args.test.now) c.in_ok-left.ensures.parts c.requires.in_order c.cmp.result c.cmp.ensures
    c.if-is_gt.ensures entry_of c.first_from-2.result c.in-None.is c.first_from-2.ensures c.if-passes.ensures

pub returns-else-passes : goal.returns-else-passes
returns-else-passes g t c =
    first_right g.met.K.Ord.total c.args.from.now
    (g.T.Test.passed c.args.test.now) c.in_ok-left.ensures.parts c.requires.in_order c.cmp.result c.cmp.ensures
    c.if-is_gt.ensures entry_of c.first_from-2.result c.in-None.is c.first_from-2.ensures c.if-passes.ensures entry_of
    c.first.result c.first.ensures
