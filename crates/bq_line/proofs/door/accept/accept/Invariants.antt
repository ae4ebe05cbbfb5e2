use Rattle.std.proofs.Common.{◌≡◌, ◌≤◌}
use Rattle.bq_line.proofs.door.accept.accept.Given as goal
use Rattle.bq_line.specs.Accepts.{most_failures}

abbrev pub invariant-loop : goal.invariant-loop
invariant-loop g l = record {
  counted : l.failures ≡ l.counter;
  within : l.counter ≤ most_failures;
}
