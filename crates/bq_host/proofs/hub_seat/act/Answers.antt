use Rattle.std.proofs.Common.{subst, sym}
use Rattle.bq_host.specs.Hubs.{HubTrace, KeepsFresh}
use Rattle.bq_host.proofs.HubSeatLemmas.{link_gone}
use Rattle.bq_host.proofs.hub_seat.act.Goals as goal

pub returns-clause-carried : goal.returns-clause-carried
returns-clause-carried g c =
    let h = c.carry_out.ensures.carried in
    let p = link_gone g.K.QueueCore g.C.Clock
    (record { hub = record { ref_ptr = c.args.hub.ref_ptr; ghost_name = c.link-1.given; now = c.args.hub.now }; seat = c.args.seat })
    c.carry_out.new.link c.args.action.now h.0 h.1 h.2 h.3.1 in (
      h.0,
      h.1,
      subst (HubTrace g.K.QueueCore g.C.Clock c.args.seat c.args.hub.now h.0 h.1) (sym (c.hub-1.given.1 (sym p.0))) p.2,
      h.3,
    )

pub returns-clause-fresh : goal.returns-clause-fresh
returns-clause-fresh g c =
    let h = c.carry_out.ensures.carried in
    let p = link_gone g.K.QueueCore g.C.Clock
    (record { hub = record { ref_ptr = c.args.hub.ref_ptr; ghost_name = c.link-1.given; now = c.args.hub.now }; seat = c.args.seat })
    c.carry_out.new.link c.args.action.now h.0 h.1 h.2 h.3.1 in
    subst (KeepsFresh g.C.Clock.given c.args.hub.now) (sym (c.hub-1.given.1 (sym p.0))) p.3
