use Rattle.bq_event_loop.proofs.ServingLemmas.{acted_none, acted_then}
use Rattle.bq_event_loop.proofs.serve.act_on_task.Goals as goal

pub loop-done-init : goal.loop-done-init
loop-done-init g c = acted_none c.requires.ready.0.0 c.requires.ready.0.1

pub returns-then-not-goes_on : goal.returns-then-not-goes_on
returns-then-not-goes_on g c = acted_then c.loop-done.invariant c.act-progress.ensures

pub loop-done-preserved : goal.loop-done-preserved
loop-done-preserved g c = acted_then c.loop-done.invariant c.act-progress.ensures
