use Rattle.std.proofs.Common.{◌∙◌, arith}
use Rattle.bq_event_loop.proofs.ServingLemmas.{acted_none, serves_time}
use Rattle.bq_host.proofs.WakeLemmas.{wakes_then}
use Rattle.bq_event_loop.proofs.serve.serve_seat.Goals as goal

pub returns-then-not-may_act : goal.returns-then-not-may_act
returns-then-not-may_act g c = search acted_none

pub deliver_all-all-requires : goal.deliver_all-all-requires
deliver_all-all-requires g c = record { order = c.act_with_buffer-progress.ensures.order }

pub returns-then-not-takes_next : goal.returns-then-not-takes_next
returns-then-not-takes_next g c =
    let a = c.act_with_buffer-progress.ensures in
    let delivered = c.deliver_all-all.ensures.trace in
    record {
      acted = record {
        order = delivered.0;
        tended = a.tended;
        mailed = c.deliver_all-all.ensures.many ∙ a.mailed;
        serves = λ earlier begun told s. serves_time 0 delivered.1 earlier begun told (a.serves earlier begun told s);
        only = a.only;
        wakes = wakes_then _ _ _ _ _ _ a.wakes delivered.1.1;
      };
      between = λ a is within. absurd (c.may_act.ensures.line c.if-not-may_act.false a is);
    }

pub returns-else-not-takes_next : goal.returns-else-not-takes_next
returns-else-not-takes_next g c = grind arith
