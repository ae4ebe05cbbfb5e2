use Rattle.std.proofs.Common.{arith}
use Rattle.bq_host.proofs.HubLemmas.{trace_delivered, trace_none}
use Rattle.bq_host.proofs.hub.Hub.deliver_all.Goals as goal

pub returns-then-self-clause-trace : goal.returns-then-self-clause-trace
returns-then-self-clause-trace g c = (c.requires.order, trace_none g.K.QueueCore g.C.Clock c.args.seat c.args.self.now)

pub returns-clause-trace : goal.returns-clause-trace
returns-clause-trace g c = grind (arith, trace_delivered g.K.QueueCore g.C.Clock c.args.seat c.args.self.now c.deliver_pending.new.self)
