use Rattle.std.proofs.lemmas.Grind.{common_steps}
use Rattle.bq_index.proofs.Parts.{goes_left, goes_nowhere, goes_right, left_below, right_below}
use Rattle.std.proofs.Common.{ap, arith, refl}
use Rattle.bq_index.specs.Tree.{left_in, right_in}
use Rattle.bq_index.proofs.insert.+insert_below.Goals as goal

pub insert_below-grown-requires : goal.insert_below-grown-requires
insert_below-grown-requires g t c κs within =
    let w = goes_left g.met.K.Ord.total _ c.requires.alone.filled (rw c.deref.ensures at c.key_alone.ensures) c.args.here.now
    c.requires.here_level c.requires.in_order c.requires.absent (rw c.in-Both.is refl) c.compare_within.ensures.answer c.in-Less.is in
    let below = left_below g.K.Ord.cmp c.args.here.now c.requires.here_level c.requires.in_order (ap left_in c.in-Both.is) in
    grind arith

pub insert_below-grown-requires-in-Greater : goal.insert_below-grown-requires-in-Greater
insert_below-grown-requires-in-Greater g t c κs within =
    let w = goes_right g.met.K.Ord.total _ c.requires.alone.filled (rw c.deref.ensures at c.key_alone.ensures) c.args.here.now
    c.requires.here_level c.requires.in_order c.requires.absent (rw c.in-Both.is refl) c.compare_within.ensures.answer c.in-Greater.is in
    let below = right_below g.K.Ord.cmp c.args.here.now c.requires.here_level c.requires.in_order (ap right_in c.in-Both.is) in
    grind arith

pub unreachable-requires : goal.unreachable-requires
unreachable-requires g t c =
    goes_nowhere g.met.K.Ord.total _ c.requires.alone.filled (rw c.deref.ensures at c.key_alone.ensures) c.args.here.now
    c.requires.here_level c.requires.in_order c.requires.absent (rw c.in-Both.is refl) c.compare_within.ensures.answer c.in-Equal.is

pub returns-in-Less-clause-is : goal.returns-in-Less-clause-is
returns-in-Less-clause-is g t c =
    let w = goes_left g.met.K.Ord.total _ c.requires.alone.filled (rw c.deref.ensures at c.key_alone.ensures) c.args.here.now
    c.requires.here_level c.requires.in_order c.requires.absent (rw c.in-Both.is refl) c.compare_within.ensures.answer c.in-Less.is in
    grind arith

pub returns-in-Greater-clause-is : goal.returns-in-Greater-clause-is
returns-in-Greater-clause-is g t c =
    let w = goes_right g.met.K.Ord.total _ c.requires.alone.filled (rw c.deref.ensures at c.key_alone.ensures) c.args.here.now
    c.requires.here_level c.requires.in_order c.requires.absent (rw c.in-Both.is refl) c.compare_within.ensures.answer c.in-Greater.is in
    grind arith

pub mend-requires-clause-kept : goal.mend-requires-clause-kept
mend-requires-clause-kept g t c = grind (arith, common_steps)

pub mend-requires-in-Greater-clause-kept : goal.mend-requires-in-Greater-clause-kept
mend-requires-in-Greater-clause-kept g t c = grind (arith, common_steps)
