use Rattle.bq_jobs.proofs.Told.{can_move_if, shared_then}
use Rattle.bq_jobs.proofs.numbered_jobs.NumberedJobs.share_and_change.Goals as goal

pub shift_if_shared-requires : goal.shift_if_shared-requires
shift_if_shared-requires g c = can_move_if c.args.id _ _ _ c.self.invariant c.args.self.now c.self.view_is
    (g.E.JobEdit.edited c.args.edit.now) c.requires.id c.requires.tube c.try_edit-shared.result c.try_edit-shared.ensures.told

pub invariant_of-self : goal.invariant_of-self
invariant_of-self g c = (shared_then c.args.id _ _ _ c.self.invariant c.args.self.now c.self.view_is
    (g.E.JobEdit.edited c.args.edit.now) c.requires.id c.requires.tube c.try_edit-shared.result
    c.try_edit-shared.new.self c.shift_if_shared.new.groups c.shift_if_shared.new.timers
    c.try_edit-shared.ensures.told c.try_edit-shared.ensures.entries c.try_edit-shared.ensures.spare c.try_edit-shared.ensures.comparisons
    c.shift_if_shared.ensures).0

pub returns : goal.returns
returns g c = (shared_then c.args.id _ _ _ c.self.invariant c.args.self.now c.self.view_is
    (g.E.JobEdit.edited c.args.edit.now) c.requires.id c.requires.tube c.try_edit-shared.result
    c.try_edit-shared.new.self c.shift_if_shared.new.groups c.shift_if_shared.new.timers
    c.try_edit-shared.ensures.told c.try_edit-shared.ensures.entries c.try_edit-shared.ensures.spare c.try_edit-shared.ensures.comparisons
    c.shift_if_shared.ensures).1
