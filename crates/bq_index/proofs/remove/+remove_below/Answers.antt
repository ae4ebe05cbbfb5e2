use Rattle.std.proofs.lemmas.Grind.{common_steps}
use Rattle.bq_index.proofs.Parts.{around_box, left_below, right_below}
use Rattle.std.proofs.Common.{ap, arith}
use Rattle.bq_index.specs.Tree.{left_in, right_in}
use Rattle.bq_index.proofs.remove.+remove_below.Goals as goal

pub remove_below-shrunk-requires : goal.remove_below-shrunk-requires
remove_below-shrunk-requires g t c κs within =
    let below = left_below g.K.Ord.cmp c.args.here.now c.requires.here_level.0 c.requires.in_order (ap left_in c.in-Both.is) in
    grind arith

pub remove_below-shrunk-requires-in-Greater : goal.remove_below-shrunk-requires-in-Greater
remove_below-shrunk-requires-in-Greater g t c κs within =
    let below = right_below g.K.Ord.cmp c.args.here.now c.requires.here_level.0 c.requires.in_order (ap right_in c.in-Both.is) in
    grind arith

pub returns-else-not-is_high-clause-is : goal.returns-else-not-is_high-clause-is
returns-else-not-is_high-clause-is g t c =
    grind (arith, around_box g.met.K.Ord.total c.args.here.now c.requires.here_level.0 c.requires.in_order c.compare_within.ensures.answer)

pub returns-else-not-is_high-clause-found : goal.returns-else-not-is_high-clause-found
returns-else-not-is_high-clause-found g t c =
    grind (arith, around_box g.met.K.Ord.total c.args.here.now c.requires.here_level.0 c.requires.in_order c.compare_within.ensures.answer)

pub returns-then-not-is_high-clause-is : goal.returns-then-not-is_high-clause-is
returns-then-not-is_high-clause-is g t c =
    let w = around_box g.met.K.Ord.total c.args.here.now c.requires.here_level.0 c.requires.in_order c.compare_within.ensures.answer in
    grind (arith, common_steps)

pub returns-then-not-is_high-clause-found : goal.returns-then-not-is_high-clause-found
returns-then-not-is_high-clause-found g t c =
    grind (arith, around_box g.met.K.Ord.total c.args.here.now c.requires.here_level.0 c.requires.in_order c.compare_within.ensures.answer)

pub returns-else-not-is_high-2-clause-is : goal.returns-else-not-is_high-2-clause-is
returns-else-not-is_high-2-clause-is g t c =
    grind (arith, around_box g.met.K.Ord.total c.args.here.now c.requires.here_level.0 c.requires.in_order c.compare_within.ensures.answer)

pub returns-else-not-is_high-2-clause-found : goal.returns-else-not-is_high-2-clause-found
returns-else-not-is_high-2-clause-found g t c =
    grind (arith, around_box g.met.K.Ord.total c.args.here.now c.requires.here_level.0 c.requires.in_order c.compare_within.ensures.answer)

pub returns-then-not-is_high-2-clause-is : goal.returns-then-not-is_high-2-clause-is
returns-then-not-is_high-2-clause-is g t c =
    let w = around_box g.met.K.Ord.total c.args.here.now c.requires.here_level.0 c.requires.in_order c.compare_within.ensures.answer in
    grind (arith, common_steps)

pub returns-then-not-is_high-2-clause-found : goal.returns-then-not-is_high-2-clause-found
returns-then-not-is_high-2-clause-found g t c =
    grind (arith, around_box g.met.K.Ord.total c.args.here.now c.requires.here_level.0 c.requires.in_order c.compare_within.ensures.answer)

pub returns-in-Equal-clause-is : goal.returns-in-Equal-clause-is
returns-in-Equal-clause-is g t c =
    let w = around_box g.met.K.Ord.total c.args.here.now c.requires.here_level.0 c.requires.in_order c.compare_within.ensures.answer in
    grind (arith, common_steps)

pub returns-in-Equal-clause-found : goal.returns-in-Equal-clause-found
returns-in-Equal-clause-found g t c =
    grind (arith, around_box g.met.K.Ord.total c.args.here.now c.requires.here_level.0 c.requires.in_order c.compare_within.ensures.answer)

pub mend-requires-clause-kept : goal.mend-requires-clause-kept
mend-requires-clause-kept g t c = grind (arith, common_steps)

pub mend-requires-in-Greater-clause-kept : goal.mend-requires-in-Greater-clause-kept
mend-requires-in-Greater-clause-kept g t c = grind (arith, common_steps)

pub cut-requires-clause-room : goal.cut-requires-clause-room
cut-requires-clause-room g t c = omega (arith, c.requires.room, c.requires.here_level.1, c.compare_within.ensures.counts_one)
