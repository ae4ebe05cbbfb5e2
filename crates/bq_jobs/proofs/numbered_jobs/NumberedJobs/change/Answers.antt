use Rattle.std.proofs.Common.{arith}
use Rattle.std.proofs.Common.{◌∙◌, sym}
use Rattle.bq_jobs.proofs.Told.{jobs_then, shelved_then}
use Rattle.bq_jobs.proofs.numbered_jobs.NumberedJobs.change.Goals as goal

pub invariant_of-self-2 : goal.invariant_of-self-2
invariant_of-self-2 g c =
    let told = sym c.edit.ensures.told ∙ c.in_ok-moved.was in
    shelved_then c.args.id (g.E.JobEdit.edited c.args.edit.now) c.requires.id c.requires.tube _ _ _ c.self.invariant
    c.in_ok-moved.moved told
    c.edit.new.self c.edit.ensures.entries c.shift_places.new.groups c.shift_places.new.timers c.edit.ensures.spare
    c.shift_places.ensures.groups c.shift_places.ensures.timers

pub returns-clause-jobs : goal.returns-clause-jobs
returns-clause-jobs g c = grind (arith, jobs_then)
