use Rattle.std.proofs.Common.{◌<◌, ℕ}
use Rattle.std.specs.Prelude.{slice_index_or}
use Rattle.bq_link.specs.EndStates.{SeatState}
use Rattle.bq_run.specs.Linked.{AreStill, IsCoreStill, IsSettled}
use Rattle.bq_run.proofs.run.settle.settle.Given as goal

abbrev pub invariant-loop-place : goal.invariant-loop-place
invariant-loop-place l = record {
  core : IsCoreStill l.fn.core l.core;
  ends : AreStill l.fn.ends l.ends;
  settled : (place : ℕ) (d : SeatState) → place < l.place → IsSettled l.core place (slice_index_or l.ends place d);
}
