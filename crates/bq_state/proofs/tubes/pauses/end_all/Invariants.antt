-- The pauses that are still to end, after those that ended so far.
use Rattle.std.proofs.Common.{◌≡◌}
use Rattle.bq_state.specs.{PauseEnds.{AreEnds, paused_count}, TubesSeen.with_ended}
use Rattle.bq_state.proofs.tubes.pauses.end_all.Given as goal

abbrev pub invariant-loop-end : goal.invariant-loop-end
invariant-loop-end l = record {
  kept : with_ended l.moment l.kept.entries ≡ with_ended l.moment l.fn.kept.entries;
  tubes : l.kept.tubes ≡ l.fn.kept.tubes;
  ends : AreEnds l.kept l.ends;
}

abbrev pub decreases-loop-end : goal.decreases-loop-end
decreases-loop-end l = paused_count l.kept.entries
