use Rattle.bq_jobs.proofs.NamedJobs.{number_moved}
use Rattle.bq_state.proofs.store.Store.change.Goals as goal

pub returns-clause-number : goal.returns-clause-number
returns-clause-number g c =
    rw (c.told_of.ensures, c.change-moved.ensures.moved, ← c.self.view_is)
    (number_moved _ (g.E.JobEdit.edited c.args.edit.now) c.args.id c.self.inside.jobs.jobs c.self.invariant.registered)
