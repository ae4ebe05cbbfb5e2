use Rattle.std.proofs.Common.{arith, false}
use Rattle.bq_host.proofs.HubLemmas.{order_ready, trace_stepped}
use Rattle.bq_host.proofs.TimedRunLemmas.{timed_step}
use Rattle.bq_host.proofs.hub.Hub.take_step.Goals as goal

pub returns-clause-trace : goal.returns-clause-trace
returns-clause-trace g c =
    let t = c.take_step_quietly-notice in
    let old = c.args.self.now in (
      grind (arith, order_ready),
      trace_stepped g.K.QueueCore g.C.Clock c.args.seat t.new.self.time.moment c.args.what.now old t.new.self false
          (timed_step g.K.QueueCore g.C.Clock old.timed t.new.self c.args.seat c.args.what.now t.ensures.taken) c.requires.empty,
    )
