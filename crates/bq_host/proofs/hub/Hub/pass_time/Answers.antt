use Rattle.std.proofs.Common.{[], refl}
use Rattle.bq_host.proofs.HubLemmas.{trace_then}
use Rattle.bq_host.proofs.hub.Hub.pass_time.Goals as goal

pub returns-clause-trace : goal.returns-clause-trace
returns-clause-trace g c = (
  c.deliver_all-all.ensures.trace.0,
  trace_then g.K.QueueCore g.C.Clock 0 0 c.args.self.now c.tick_if_due-ticks.new.self c.deliver_all-all.new.self [] []
      [] [] refl c.tick_if_due-ticks.ensures.trace.1 c.deliver_all-all.ensures.trace.1,
)
