use Rattle.std.proofs.Common.{arith, sym}
use Rattle.bq_jobs.proofs.Shelved.{shelved_with}
use Rattle.bq_jobs.proofs.numbered_jobs.NumberedJobs.add.Goals as goal

pub invariant_of-self : goal.invariant_of-self
invariant_of-self c =
    shelved_with _ _ _ c.self.invariant _ c.self.view_is c.args.id c.args.job _ _ _ _ _ (sym c.requires.id)
    (omega (arith, c.ranges.id)) c.requires.absent c.insert.ensures.entries c.insert.ensures.spare
    c.group_place.ensures c.enter.ensures.entries c.enter.ensures.spare
    c.timer_place.ensures c.enter-2.ensures.entries c.enter-2.ensures.spare

pub returns-clause-ordered : goal.returns-clause-ordered
returns-clause-ordered c = (invariant_of-self c).ids
