use Rattle.std.proofs.{Common.arith, lemmas.Grind.common_steps}
use Rattle.bq_state.{proofs.{MaybeGoneLemmas.all_kept_alive, NameLemmas.{alive_are_tubes, names_by_counts}}, specs.CoreParts.machine_of}
use Rattle.bq_state.specs.TubesSeen.{records}
use Rattle.bq_state.proofs.changes.tube_count.Goals as goal

pub returns-in-Nothing : goal.returns-in-Nothing
returns-in-Nothing c =
    let st = c.args.state.now in
    let alive = alive_are_tubes (machine_of st) (records st.store.tubes) st.sound.entries in
    grind (arith, common_steps, all_kept_alive)

pub returns-in_default : goal.returns-in_default
returns-in_default c = grind (arith, common_steps, names_by_counts c.args.state.now)
