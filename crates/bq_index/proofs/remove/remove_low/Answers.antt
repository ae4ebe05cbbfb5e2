use Rattle.std.proofs.lemmas.Grind.{common_steps}
use Rattle.bq_index.proofs.Parts.{around_box, come_apart}
use Rattle.std.proofs.Common.{arith, sym, ◌∙◌}
use Rattle.bq_index.proofs.Removed.{gone_below}
use Rattle.bq_index.specs.Removed.{value_of_top}
use Rattle.bq_index.proofs.remove.remove_low.Goals as goal

pub returns-in-Less-clause-is : goal.returns-in-Less-clause-is
returns-in-Less-clause-is g c =
    let w = around_box g.met.K.Ord.total c.args.here.now c.requires.here_level.0 c.requires.in_order
    c.compare_within.ensures.answer c.key.ensures in
    c.cut.ensures.is ∙ sym (gone_below w (value_of_top c.cut.new.found) c.in-Less.is)

pub returns-in-Less-clause-found : goal.returns-in-Less-clause-found
returns-in-Less-clause-found g c =
    grind (arith, around_box g.met.K.Ord.total c.args.here.now c.requires.here_level.0 c.requires.in_order c.compare_within.ensures.answer)

pub returns-in-Greater-clause-is : goal.returns-in-Greater-clause-is
returns-in-Greater-clause-is g c = grind (arith, common_steps, come_apart c.args.here.now c.requires.here_level.0, c.requires.here_level.0)

pub returns-in-Greater-clause-found : goal.returns-in-Greater-clause-found
returns-in-Greater-clause-found g c =
    grind (arith, around_box g.met.K.Ord.total c.args.here.now c.requires.here_level.0 c.requires.in_order c.compare_within.ensures.answer)

pub returns-in-Equal-clause-is : goal.returns-in-Equal-clause-is
returns-in-Equal-clause-is g c =
    grind (arith, around_box g.met.K.Ord.total c.args.here.now c.requires.here_level.0 c.requires.in_order c.compare_within.ensures.answer)

pub returns-in-Equal-clause-found : goal.returns-in-Equal-clause-found
returns-in-Equal-clause-found g c =
    grind (arith, around_box g.met.K.Ord.total c.args.here.now c.requires.here_level.0 c.requires.in_order c.compare_within.ensures.answer)

pub returns-in-Less-clause-counted : goal.returns-in-Less-clause-counted
returns-in-Less-clause-counted g c = grind (arith, come_apart)

pub returns-in-Greater-clause-counted : goal.returns-in-Greater-clause-counted
returns-in-Greater-clause-counted g c = grind (arith, come_apart)
