use Rattle.bq_state.proofs.EndMoves.{edit_stored}
use Rattle.bq_state.proofs.store.Store.edit_entry.Goals as goal

pub invariant_of-self : goal.invariant_of-self
invariant_of-self g c = search edit_stored
