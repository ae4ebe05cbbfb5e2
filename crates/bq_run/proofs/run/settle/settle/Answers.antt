use Rattle.std.proofs.Common.{◌<◌, length, arith}
use Rattle.bq_run.proofs.SettleLemmas.{pair_at, settled_more, still_set}
use Rattle.bq_run.proofs.run.settle.settle.Goals as goal

pub loop-place-preserved : goal.loop-place-preserved
loop-place-preserved c =
    let l = c.loop-place in
    let done = c.settle_one.ensures in
    let x = c.index-ends-place.result in
    let below : l.place < length l.ends = grind arith in
    let at = pair_at _ _ _ _ _ x c.requires.pairs l.invariant.core l.invariant.ends below in
    record {
      core = grind arith;
      ends = still_set _ _ _ x _ below l.invariant.ends done.end;
      settled = settled_more _ _ _ _ _ below done.core l.invariant.settled (rw at.0 at done.settled);
    }
