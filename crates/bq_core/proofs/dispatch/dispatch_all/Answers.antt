use Rattle.std.proofs.{Common.{ap, arith, subst, ◌<◌}, lemmas.Grind.common_steps}
use Rattle.bq_core.proofs.{AskLemmas.{asks_more, asks_none, asks_then}, CostLemmas.{handed_stop, no_shorter, one_longer, one_more_turn}}
use Rattle.bq_core.{proofs.{CostLemmas.waited_less, TurnLemmas.{gives_joined, gives_nothing, refused_joined, room_kept}}, specs.Turns.Gives}
use Rattle.bq_job.specs.{beside.waiting_count, machine.{DispatchTurn, Machine.Machine, has_refused_share}}
use Rattle.bq_state.specs.CoreParts.{machine_of, machine_of_fields}
use Rattle.bq_core.proofs.dispatch.dispatch_all.Goals as goal

pub loop-id-init : goal.loop-id-init
loop-id-init c = grind (arith, common_steps, gives_nothing, asks_more, asks_none)

pub loop-id-preserved : goal.loop-id-preserved
loop-id-preserved c =
    let was = c.loop-id.invariant in
    let found = c.in-Some.ensures in
    let last = machine_of c.hand_out_one.new.state in
    let same = ap machine_of_fields found.kept.same in
    let given = subst (λ (x : Machine). Gives DispatchTurn has_refused_share x last c.loop-id.outs c.hand_out_one.new.outs)
    same c.hand_out_one.ensures.given in
    let falls = subst (λ (x : Machine). waiting_count last < waiting_count x) same c.hand_out_one.ensures.fewer in
    let before = no_shorter _ _ _ _ _ _ was.given in
    let longer = one_longer _ _ _ _ _ _ given falls in
    record {
      given = gives_joined _ _ refused_joined _ _ _ _ _ _ was.given given;
      asks = asks_more _ (one_more_turn _ _ _ _ (omega arith) (handed_stop _ waited_less _ _ _ was.given.turns))
          (asks_then was.asks (asks_then found.kept.asks c.hand_out_one.ensures.asks));
      room = room_kept _ _ _ _ _ _ _ given was.room;
    }

pub returns-clause-asks : goal.returns-clause-asks
returns-clause-asks c =
    let waits = handed_stop _ waited_less _ _ _ c.loop-id.invariant.given.turns in
    asks_more _ (omega (arith, waits)) (asks_then c.loop-id.invariant.asks c.in_default.ensures.kept.asks)
