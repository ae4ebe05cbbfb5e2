use Rattle.std.proofs.Common.{◌≡◌, ◌≤◌, ◌-◌, true, length, take}
use Rattle.std.specs.List.{list_all}
use Rattle.bq_job.specs.reading.Words as spec
use Rattle.bq_wire.proofs.line_read.leading_digits.Given as goal

-- the bytes that were read are digits, with this value
abbrev pub invariant-loop-digits : goal.invariant-loop-digits
invariant-loop-digits l = record {
  within : l.digits ≤ length l.fn.line;
  digits : list_all spec.is_digit (take l.digits l.fn.line) ≡ true;
  value_is : l.value ≡ spec.value_of_digits (take l.digits l.fn.line);
}

abbrev pub decreases-loop-digits : goal.decreases-loop-digits
decreases-loop-digits l = length l.fn.line - l.digits
