use Rattle.std.proofs.Common.{◌≡◌, ◌-◌, ◌++◌, length}
use Rattle.bq_job.specs.promise.LineSteps.{LineSeen}
use Rattle.bq_line.specs.Streams.{StaysOver}
use Rattle.bq_line.specs.Writing.{with_begun}
use Rattle.bq_line.proofs.buffers.write_parts.Given as goal

abbrev pub invariant-loop-sent : goal.invariant-loop-sent
invariant-loop-sent g l = record {
  seen : (first : LineSeen) → g.L.Line.seen l.fn.line ≡ with_begun (l.head ++ l.body ++ l.tail) l.fn.sent first
      → g.L.Line.seen l.line ≡ with_begun (l.head ++ l.body ++ l.tail) l.done first;
  stays : StaysOver g.L.Line.lies_over l.fn.line l.line;
}

abbrev pub decreases-loop-sent : goal.decreases-loop-sent
decreases-loop-sent g l = length (l.head ++ l.body ++ l.tail) - l.done
