use Rattle.std.specs.BTreeMap.{is_at}
use Rattle.bq_index.specs.Tree.{near}
use Rattle.bq_index.proofs.Parts.{near_level}
use Rattle.bq_index.proofs.Single.{none_left}
use Rattle.bq_index.proofs.remove.cut.Goals as goal

pub returns-then-is_on-clause-is : goal.returns-then-is_on-clause-is
returns-then-is_on-clause-is g c =
    let none = none_left (is_at (g.K.Ord.cmp c.args.key.now)) (g.T.Test.passed c.args.test.now c.args.key.now)
    (near c.args.side c.args.here.now) c.shed-removed.result.0.value (near_level c.args.side c.args.here.now c.requires.here_level)
    c.requires.low c.if-is_on.ensures.answer c.shed-removed.ensures.shed in
    rw (c.keep.ensures, none) c.shed-removed.ensures.is
