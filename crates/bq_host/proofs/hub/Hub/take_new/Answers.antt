use Rattle.std.proofs.Common.{◌≡◌, ◌∷◌, ℕ, List, None, ap, subst, sym, arith}
use Rattle.bq_job.specs.machine.Dispatch.{GivenAnswer}
use Rattle.bq_host.specs.Hubs.{state_of}
use Rattle.bq_host.specs.declared.hub.Hub.{Hub}
use Rattle.bq_host.proofs.HubLemmas.{trace_moved, trace_taken}
use Rattle.bq_host.proofs.hub.Hub.take_new.Goals as goal

pub returns-in_default-clause-trace : goal.returns-in_default-clause-trace
returns-in_default-clause-trace g c =
    grind (arith, trace_moved g.K.QueueCore g.C.Clock c.args.seat c.args.self.now c.next_new.new.self None _ _ c.next_new.ensures.rest)

pub returns-then-seat-first-clause-trace : goal.returns-then-seat-first-clause-trace
returns-then-seat-first-clause-trace g c =
    let pending : Hub _ _ → List GivenAnswer = λ h. (state_of g.K.QueueCore h).pending in
    let old = c.args.self.now in
    let popped = c.next_new.new.self in
    let now = c.has_none_pending-self.result in (
      c.in-Some.answer,
      c.write.ensures,
      trace_taken g.K.QueueCore g.C.Clock c.args.seat c.in-Some.answer old _ None popped.timed.outs.given now
          (ap (λ (h : Hub _ _). record h { all_delivered = now }) c.next_new.ensures.rest) c.requires.empty
          (subst (λ (n : ℕ). pending old ≡ (n, c.in-Some.answer) ∷ pending popped) (sym c.if-seat-first.true) c.in-Some.ensures.pending),
    )
