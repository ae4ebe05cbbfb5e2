use Rattle.std.proofs.Common.{◌≡◌, ◌-◌, length}
use Rattle.bq_job.specs.promise.LineSteps.{LineSeen}
use Rattle.bq_line.specs.Streams.{StaysOver}
use Rattle.bq_line.specs.Writing.{with_begun}
use Rattle.bq_line.proofs.buffers.write_rest.Given as goal

abbrev pub invariant-loop-done : goal.invariant-loop-done
invariant-loop-done g l = record {
  seen : (first : LineSeen) → g.L.Line.seen l.fn.line ≡ with_begun l.bytes l.fn.sent first
      → g.L.Line.seen l.line ≡ with_begun l.bytes l.done first;
  stays : StaysOver g.L.Line.lies_over l.fn.line l.line;
}

abbrev pub decreases-loop-done : goal.decreases-loop-done
decreases-loop-done g l = length l.bytes - l.done
