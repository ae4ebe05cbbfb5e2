use Rattle.std.proofs.Common.{arith}
use Rattle.std.proofs.lemmas.Grind.{common_steps}
use Rattle.bq_jobs.proofs.TestedRemovals.{number_removed_if, removed_has_name, removes_named_if}
use Rattle.bq_state.proofs.store.Store.discard_if.Goals as goal

pub returns-clause-left : goal.returns-clause-left
returns-clause-left g c = grind (arith, common_steps, removes_named_if)

pub returns-clause-number : goal.returns-clause-number
returns-clause-number g c = rw (c.removed_of.ensures, c.discard_if-removed.ensures.removed, ← c.self.view_is)
    (number_removed_if _ _ _ _ c.self.invariant.registered)

pub removed_of-requires : goal.removed_of-requires
removed_of-requires g c = rw c.discard_if-removed.ensures.removed (removed_has_name _ _ _ _ c.self.invariant.registered)
