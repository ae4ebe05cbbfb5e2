use Rattle.std.specs.List.{All}
use Rattle.bq_line.specs.MemDoors.{IsFresh}
use Rattle.bq_serve_tests.proofs.doors.door.Given as goal

abbrev pub invariant-loop-visit : goal.invariant-loop-visit
invariant-loop-visit l = All IsFresh l.lines.items
