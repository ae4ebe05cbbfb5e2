use Rattle.std.proofs.Common.{[], refl, sym, subst, arith}
use Rattle.bq_seat.specs.declared.machine.Action.{Action}
use Rattle.bq_seat.specs.declared.machine.Action.TheVariants as actions
use Rattle.bq_host.specs.Hubs.{state_of}
use Rattle.bq_host.proofs.{HubLemmas.{trace_then}, TraceLemmas.{new_mails_are, order_new}}
use Rattle.bq_run_one.proofs.AloneLemmas.{IsServingAlone, begins_alone, goes_on_alone, over_alone}
use Rattle.bq_line.proofs.SeatLemmas.{opened_on}
use Rattle.bq_job.proofs.JoinLemmas.{line_joined}
use Rattle.bq_run_one.proofs.one.serve_line.Goals as goal

pub loop-init : goal.loop-init
loop-init g c =
    let made = c.requires.hub in
    let settings = (g.K.QueueCore.machine c.args.hub.timed.core).settings in
    let state = state_of g.K.QueueCore c.args.hub in
    let many = new_mails_are settings state made in
    let seats = c.requires.lone in
    record {
      iterator = (tt, tt);
      serves = begins_alone g.K.QueueCore g.C.Clock c.args.hub 0 c.open-action.new.self (g.L.Line.seen c.args.line) c.open-action.result
          (opened_on settings.max_job_size _ c.open-action.new.self c.open-action.result
          (g.L.Line.seen c.args.line) c.requires.awaits c.requires.limit c.open-action.ensures c.requires.new);
      stays = λ first over. over;
      ready = (order_new settings state made, omega (arith, many, seats));
    }

pub loop-preserved : goal.loop-preserved
loop-preserved g c =
    let h = c.act-progress.ensures.carried in
    let next = c.act-progress.new.hub in
    let w = trace_then g.K.QueueCore g.C.Clock 0 0 c.loop.hub c.pass_time_before.new.hub next [] h.0 [] h.1 refl
    c.pass_time_before.ensures.trace h.2 in
    record {
      iterator = (tt, tt);
      serves = goes_on_alone g.K.QueueCore g.C.Clock c.args.hub c.act-progress.result 0 c.loop.hub next c.loop.machine
          c.act-progress.new.machine (g.L.Line.seen c.loop.line) (g.L.Line.seen c.act-progress.new.line) c.loop.action
          c.act-progress.new.action c.loop.sent c.act-progress.new.sent h.0 h.1 c.loop.invariant.serves w h.3.2;
      stays = λ first over. c.act-progress.ensures.stays first (c.loop.invariant.stays first over);
      ready = (c.act-progress.ensures.order, omega (arith, w.0.2.trace.many, c.loop.invariant.ready.1));
    }

pub returns-in-LineOver-clause-served : goal.returns-in-LineOver-clause-served
returns-in-LineOver-clause-served g c =
    let first = c.args.hub in
    let settings = (g.K.QueueCore.machine first.timed.core).settings in
    let end = c.in-LineOver.end in
    let seen = g.L.Line.seen c.loop.line in
    let s : IsServingAlone g.K.QueueCore g.C.Clock first 0 c.loop.hub c.loop.machine seen (actions.LineOver end) c.loop.sent =
    subst (λ (a : Action). IsServingAlone g.K.QueueCore g.C.Clock first 0 c.loop.hub c.loop.machine seen a c.loop.sent)
    c.in-LineOver.ensures.action c.loop.invariant.serves in
    let seats = c.requires.lone in
    let d = s.trace.0 in (
      d.0,
      subst (λ clock. g.C.Clock.given first.timed.time.clock d.0 clock) (sym c.into_clock.ensures)
          (d.1 first.timed.time.clock [] (g.met.C.Clock.none_given first.timed.time.clock)),
      line_joined settings 0 (record { seen = seen; over = end }) d.0 d.2.history d.2.trace.given
          (g.K.QueueCore.machine c.loop.hub.timed.core)
          (over_alone g.K.QueueCore g.C.Clock first 0 c.loop.hub c.loop.machine seen end c.loop.sent s c.requires.hub
          (omega (arith, seats))),
    )
