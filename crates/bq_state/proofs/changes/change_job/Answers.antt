use Rattle.std.proofs.{Common.{arith, ◌==◌}, lemmas.Grind.common_steps}
use Rattle.bq_job.specs.declared.job.Job.{Job}
use Rattle.bq_jobs.proofs.Told.{nothing_told_of}
use Rattle.bq_state.{proofs.{KnowledgeLemmas.sound_with_moved, PartsLemmas.none_passed}, specs.JobChanges.changed}
use Rattle.bq_state.proofs.changes.change_job.Goals as goal

pub invariant_of-state : goal.invariant_of-state
invariant_of-state c = grind (
  arith,
  common_steps,
  nothing_told_of,
  none_passed (λ (j : Job). j.id == c.args.id) (changed c.args.what.now) c.args.state.now.store.jobs.jobs,
)

pub invariant_of-state-2 : goal.invariant_of-state-2
invariant_of-state-2 c =
    grind (arith, sound_with_moved c.args.state.now c.args.id c.args.what.now c.in-Some.report.1 c.in-Some.ensures.ordered)
