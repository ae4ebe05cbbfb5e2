use Rattle.std.proofs.Common.{arith, sym, ◌∙◌, rules}
use Rattle.bq_jobs.proofs.Shelved.{found_in, found_own, held_in_groups, held_in_timers, removal, shelved_same, shelved_without}
use Rattle.bq_jobs.proofs.named_jobs.Jobs.remove.Goals as goal

pub invariant_of-self : goal.invariant_of-self
invariant_of-self c =
    shelved_same _ _ _ c.self.invariant c.args.id _ _ c.in_err-job.was c.remove.ensures.value
    c.remove.ensures.entries c.remove.ensures.spare

pub returns-in_err-job-clause-left : goal.returns-in_err-job-clause-left
returns-in_err-job-clause-left c =
    removal _ _ _ c.self.invariant _ c.self.view_is _ c.self.inside.groups c.self.inside.timers
    c.remove.ensures.comparisons (omega arith, omega arith) (omega arith, omega arith)
    c.args.id _ _ (c.in_err-job.was ∙ sym c.from_residual.ensures) c.remove.ensures.entries c.remove.ensures.spare

pub leave-requires : goal.leave-requires
leave-requires c = search (rules, found_in, held_in_groups)

pub leave-requires-2 : goal.leave-requires-2
leave-requires-2 c = search (rules, found_in, held_in_timers)

pub invariant_of-self-2 : goal.invariant_of-self-2
invariant_of-self-2 c =
    let there = sym (found_in _ _ _ c.self.invariant c.args.id) ∙ sym c.remove.ensures.value ∙ c.in_ok-job.was in
    shelved_without _ _ _ c.self.invariant c.args.id c.in_ok-job.job _ _ _ _ _ _ c.in_ok-job.was there
    (rw c.in_ok-job.was c.remove.ensures.entries) c.remove.ensures.spare
    c.place_of.ensures c.leave.ensures.entries c.leave.ensures.spare
    c.timer_place_of.ensures c.leave-2.ensures.entries c.leave-2.ensures.spare

pub returns-clause-id : goal.returns-clause-id
returns-clause-id c = found_own _ _ _ c.self.invariant c.args.id _ (sym c.remove.ensures.value ∙ c.in_ok-job.was)

pub returns-clause-left : goal.returns-clause-left
returns-clause-left c =
    removal _ _ _ c.self.invariant _ c.self.view_is _ c.leave.new.order c.leave-2.new.order
    c.remove.ensures.comparisons c.leave.ensures.comparisons c.leave-2.ensures.comparisons
    c.args.id _ _ c.in_ok-job.was c.remove.ensures.entries c.remove.ensures.spare
