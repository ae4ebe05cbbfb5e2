use Rattle.bq_event_loop.proofs.ServingLemmas.{control_read, control_then}
use Rattle.bq_event_loop.proofs.serve.serve_control.Goals as goal

pub returns-then-not-submit_one-2 : goal.returns-then-not-submit_one-2
returns-then-not-submit_one-2 g c = search control_then

pub returns-then-is_over : goal.returns-then-is_over
returns-then-is_over g c = search control_then

pub loop-preserved : goal.loop-preserved
loop-preserved g c = search (control_then, control_read)
