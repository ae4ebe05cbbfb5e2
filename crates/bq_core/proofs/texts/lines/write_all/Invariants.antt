-- The bytes so far and those of the remaining lines are the text's, and there is room for the
-- latter.
use Rattle.std.proofs.Common.{◌++◌, ◌≡◌, ◌≤◌, drop, flat_map, length}
use Rattle.bq_core.proofs.texts.lines.write_all.Given as goal

abbrev pub invariant-loop-line : goal.invariant-loop-line
invariant-loop-line g l = record {
  written : l.text.bytes ++ flat_map g.L.Line.line (drop l.line-index l.lines) ≡ l.fn.text.bytes ++ flat_map g.L.Line.line l.lines;
  room : length (flat_map g.L.Line.line (drop l.line-index l.lines)) ≤ l.text.room;
}
