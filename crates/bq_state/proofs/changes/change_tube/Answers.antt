use Rattle.std.proofs.Common.{arith}
use Rattle.bq_state.proofs.{KnowledgeLemmas.{sound_with_tube, tube_then}, NamedLemmas.change_kept}
use Rattle.bq_state.specs.TubesSeen.{entry_changed}
use Rattle.bq_state.proofs.changes.change_tube.Goals as goal

pub invariant_of-state : goal.invariant_of-state
invariant_of-state c = grind (arith, sound_with_tube c.args.state.now c.args.tube.now c.args.what c.requires.entry)

pub returns-clause-after : goal.returns-clause-after
returns-clause-after c = grind (
  arith,
  tube_then c.args.state.now c.args.tube.now (entry_changed c.args.what) c.args.what (change_kept c.args.what) c.requires.entry,
)
