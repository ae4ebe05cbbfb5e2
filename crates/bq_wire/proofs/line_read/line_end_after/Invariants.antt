use Rattle.std.proofs.Common.{◌≡◌, ◌≤◌, ◌-◌, length, drop}
use Rattle.bq_wire.specs.LineEnds as spec
use Rattle.bq_wire.proofs.line_read.line_end_after.Given as goal

-- no command line ends in the bytes that were passed
abbrev pub invariant-loop-feed : goal.invariant-loop-feed
invariant-loop-feed l = record {
  within : l.passed ≤ length l.bytes;
  end_is : spec.line_end_after l.fn.after_cr l.bytes ≡ spec.later_by l.passed (spec.line_end_after l.after_cr (drop l.passed l.bytes));
}

abbrev pub decreases-loop-feed : goal.decreases-loop-feed
decreases-loop-feed l = length l.bytes - l.passed
