use Rattle.std.proofs.Common.{ap, false, is_some, sym, ◌∙◌, ◌≡◌}
use Rattle.bq_state.{proofs.KnowledgeLemmas.sound_provided, specs.{TubeEntries.has_entry, TubesSeen.records}}
use Rattle.bq_state.proofs.changes.provide_tube.Goals as goal

pub invariant_of-state-2 : goal.invariant_of-state-2
invariant_of-state-2 c =
    let st = c.args.state.now in
    let name = c.args.tube.now in
    let none : has_entry name (records st.store.tubes) ≡ false = sym c.number_of.ensures.there ∙ ap is_some c.in_default.is in
    rw (c.add_tube.ensures, c.in_ok-number.ensures.after, c.in_ok-number.ensures.jobs)
    (record { sound = sound_provided st name c.provide.new.self.tubes.numbers none })
