use Rattle.std.proofs.Common.{[], inr, refl}
use Rattle.bq_line.specs.Links.{as_submitted}
use Rattle.bq_host.proofs.HubLemmas.{trace_then}
use Rattle.bq_host.proofs.hub.Hub.submit.Goals as goal

pub returns-clause-taken : goal.returns-clause-taken
returns-clause-taken g c = λ e.
    trace_then g.K.QueueCore g.C.Clock c.args.seat c.args.seat c.args.self.now c.deliver_all.new.self c.take_step.new.self []
    (as_submitted c.args.step.now) [] [] refl c.deliver_all.ensures.trace.1 c.take_step.ensures.trace.1

pub returns-clause-fresh : goal.returns-clause-fresh
returns-clause-fresh g c =
    let h = rw c.deliver_all.ensures.only.time at c.take_step.ensures.read in λ f. inr (h.0, [], h.1.gave)
