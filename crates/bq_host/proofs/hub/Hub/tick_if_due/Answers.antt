use Rattle.std.proofs.Common.{◌&&◌, [], not, refl}
use Rattle.bq_host.proofs.HubLemmas.{trace_passed, trace_then}
use Rattle.bq_host.proofs.hub.Hub.tick_if_due.Goals as goal

pub returns-clause-trace : goal.returns-clause-trace
returns-clause-trace g c =
    let s = c.deliver_all-may_tick in
    let t = c.tick_if_due-is_due in
    let passed = trace_passed g.K.QueueCore g.C.Clock s.new.self t.new.self s.result t.result t.ensures.ready t.ensures.settings
    t.ensures.over t.ensures.ticked s.ensures.none s.ensures.trace.0 in (
      passed.0,
      trace_then g.K.QueueCore g.C.Clock 0 0 c.args.self.now s.new.self
          (record s.new.self { timed = t.new.self; all_delivered = s.result && not t.result }) [] [] [] [] refl s.ensures.trace.1 passed.1,
    )
