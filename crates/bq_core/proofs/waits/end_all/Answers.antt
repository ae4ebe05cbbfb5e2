use Rattle.std.proofs.Common.{arith, refl}
use Rattle.bq_core.proofs.{AskLemmas.{asks_more, asks_then}, TurnLemmas.{gives_joined, room_kept}}
use Rattle.bq_core.proofs.WaitLemmas.{checked_on, room_left}
use Rattle.bq_core.proofs.waits.end_all.Goals as goal

pub end_one-requires-clause-room : goal.end_one-requires-clause-room
end_one-requires-clause-room c = room_left c.loop-k.state _ c.loop-k.invariant.looked _ _ c.in-Some.ensures.bound c.index.ensures
    c.in-Some.ensures.least c.loop-k.outs c.loop-k.invariant.room

pub loop-k-preserved : goal.loop-k-preserved
loop-k-preserved c =
    let was = c.loop-k.invariant in
    let on = checked_on c.loop-k.state _ was.looked _ _ c.in-Some.ensures.bound c.index.ensures c.in-Some.ensures.least
    c.loop-k.outs c.end_one.new.outs _ c.end_one.ensures.looked _ c.waiter.ensures in
    record {
      given = gives_joined _ _ (λ xs ys. refl) _ _ _ _ _ _ was.given on.0;
      looked = on.1;
      fewer = omega (arith, on.2, was.fewer);
      asks = asks_more _ (omega (arith, on.2, was.fewer)) (asks_then was.asks c.end_one.ensures.asks);
      room = room_kept _ _ _ _ _ _ _ on.0 was.room;
    }

pub loop-k-smaller : goal.loop-k-smaller
loop-k-smaller c = (checked_on c.loop-k.state _ c.loop-k.invariant.looked _ _ c.in-Some.ensures.bound c.index.ensures
    c.in-Some.ensures.least c.loop-k.outs c.end_one.new.outs _ c.end_one.ensures.looked _ c.waiter.ensures).2
