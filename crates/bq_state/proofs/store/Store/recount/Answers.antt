use Rattle.bq_state.proofs.EndMoves.{edit_stored}
use Rattle.bq_state.proofs.store.Store.recount.Goals as goal

pub invariant_of-self : goal.invariant_of-self
invariant_of-self c = search edit_stored
