use Rattle.std.proofs.Common.{◌≡◌, ◌≤◌, ◌-◌, true, length, take}
use Rattle.std.specs.List.{list_all}
use Rattle.bq_wire.specs.WordsLeft.{is_letter}
use Rattle.bq_wire.proofs.line_read.first_letters.Given as goal

-- the bytes that were passed are no spaces
abbrev pub invariant-loop-letters : goal.invariant-loop-letters
invariant-loop-letters l = record {
  within : l.letters ≤ length l.fn.line;
  letters : list_all is_letter (take l.letters l.fn.line) ≡ true;
}

abbrev pub decreases-loop-letters : goal.decreases-loop-letters
decreases-loop-letters l = length l.fn.line - l.letters
