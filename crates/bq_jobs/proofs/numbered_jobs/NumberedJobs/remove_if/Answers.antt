use Rattle.std.proofs.Common.{arith, sym, ◌∙◌, rules}
use Rattle.bq_jobs.proofs.TestedRemovals.{passing_there}
use Rattle.bq_jobs.proofs.Shelved.{held_in_groups, held_in_timers, removal_if, shelved_without}
use Rattle.bq_jobs.proofs.numbered_jobs.NumberedJobs.remove_if.Goals as goal

pub returns-in_err-job-clause-left : goal.returns-in_err-job-clause-left
returns-in_err-job-clause-left g c =
    removal_if _ _ _ c.self.invariant _ c.self.view_is _ c.self.inside.groups c.self.inside.timers
    c.remove_if.ensures.comparisons (omega arith, omega arith) (omega arith, omega arith)
    c.args.id _ _ (c.in_err-job.was ∙ sym c.from_residual.ensures) c.remove_if.ensures.entries c.remove_if.ensures.spare

pub leave-requires : goal.leave-requires
leave-requires g c = search (rules, passing_there, held_in_groups)

pub leave-requires-2 : goal.leave-requires-2
leave-requires-2 g c = search (rules, passing_there, held_in_timers)

pub invariant_of-self-2 : goal.invariant_of-self-2
invariant_of-self-2 g c =
    let there = passing_there _ c.args.id _ _ _ c.self.invariant _ (sym c.remove_if.ensures.value ∙ c.in_ok-job.was) in
    shelved_without _ _ _ c.self.invariant c.args.id c.in_ok-job.job _ _ _ _ _ _ c.in_ok-job.was there
    c.remove_if.ensures.entries c.remove_if.ensures.spare
    c.group_place.ensures c.leave.ensures.entries c.leave.ensures.spare
    c.timer_place.ensures c.leave-2.ensures.entries c.leave-2.ensures.spare

pub returns-clause-left : goal.returns-clause-left
returns-clause-left g c =
    removal_if _ _ _ c.self.invariant _ c.self.view_is _ c.leave.new.order c.leave-2.new.order
    c.remove_if.ensures.comparisons c.leave.ensures.comparisons c.leave-2.ensures.comparisons
    c.args.id _ _ c.in_ok-job.was c.remove_if.ensures.entries c.remove_if.ensures.spare
