use Rattle.std.proofs.Common.{refl}
use Rattle.bq_jobs.proofs.NamedJobs.{shared_has_name, shares_named}
use Rattle.bq_state.proofs.store.Store.share_and_change.Goals as goal

pub returns-clause-changed : goal.returns-clause-changed
returns-clause-changed g c =
    rw (c.shared_of.ensures, ← c.self.view_is) (shares_named _ _ _ c.requires.tube _ _ _ refl c.self.invariant.registered _
    c.share_and_change-shared.ensures)

pub shared_of-requires : goal.shared_of-requires
shared_of-requires g c = shared_has_name _ _ _ _ _ _ c.self.invariant.registered c.share_and_change-shared.ensures
