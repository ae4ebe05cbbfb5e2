use Rattle.bq_event_loop.specs.Serving.{SeatActed}
use Rattle.bq_event_loop.proofs.serve.act_on_task.Given as goal

abbrev pub invariant-loop-done : goal.invariant-loop-done
invariant-loop-done g l = SeatActed g.K.QueueCore g.C.Clock g.L.Line g.D.Door l.fn.seat l.fn.core l.fn.row l.core l.row
