use Rattle.bq_state.proofs.store.Store.names_alive.Goals as goal

pub returns : goal.returns
returns c = rw (← c.self.view_is) c.names_passing.ensures
