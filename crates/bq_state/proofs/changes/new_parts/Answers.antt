use Rattle.bq_state.proofs.KnowledgeLemmas.{sound_at_first}
use Rattle.bq_state.proofs.changes.new_parts.Goals as goal

pub invariant_of-result : goal.invariant_of-result
invariant_of-result c = rw (c.requires.first, c.requires.free, c.none.ensures)
    (record { sound = sound_at_first _ _ _ c.requires.nobody c.requires.room })
