use Rattle.std.proofs.{Common.{arith}, lemmas.Grind.common_steps}
use Rattle.bq_core.proofs.AskLemmas.{asks_then}
use Rattle.bq_state.proofs.LoopLemmas.{folded_more}
use Rattle.bq_core.proofs.dispatch.best_among.Goals as goal

pub loop-i-preserved : goal.loop-i-preserved
loop-i-preserved c =
    let made = rw (c.offer_of.ensures.offer, c.loop-i.invariant.same) at c.better-best.ensures in
    record {
      best = folded_more _ _ _ _ _ _ _ c.loop-i-test.true c.index-watched-i.is c.loop-i.invariant.best made;
      same = grind (arith, common_steps);
      asks = asks_then c.loop-i.invariant.asks c.offer_of.ensures.kept.asks;
    }
