use Rattle.std.proofs.Common.{◌∷◌, [], refl}
use Rattle.bq_host.proofs.HubLemmas.{trace_then}
use Rattle.bq_host.proofs.hub.Hub.take_kept.Goals as goal

pub returns-in-Some-clause-trace : goal.returns-in-Some-clause-trace
returns-in-Some-clause-trace g c = (
  c.in-Some.answer,
  c.write.ensures,
  trace_then g.K.QueueCore g.C.Clock c.args.seat c.args.seat c.args.self.now c.deliver_all-all.new.self c.take_mail.new.self [] []
      [] (c.in-Some.answer ∷ []) refl c.deliver_all-all.ensures.trace.1 c.in-Some.ensures.trace.1,
)
