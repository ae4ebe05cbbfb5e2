use Rattle.bq_event_loop.specs.Serving.{ControlTrace}
use Rattle.bq_event_loop.proofs.serve.serve_control.Given as goal

abbrev pub invariant-loop : goal.invariant-loop
invariant-loop g l = ControlTrace g.K.QueueCore g.C.Clock g.I.ControlInput l.fn.core l.fn.control l.core l.control
