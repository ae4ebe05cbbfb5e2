-- The bytes so far and those of the remaining lines are the text's.
use Rattle.std.proofs.Common.{◌++◌, ◌+◌, ◌≡◌, codes, drop, flat_map, length}
use Rattle.bq_core.proofs.texts.lines.size_of.Given as goal

abbrev pub invariant-loop-line : goal.invariant-loop-line
invariant-loop-line g l = l.size + length (flat_map g.L.Line.line (drop l.line-index l.lines)) ≡ length
    (codes "---\n" ++ flat_map g.L.Line.line l.lines)
