use Rattle.std.proofs.Common.{◌≡◌, ◌<◌, ◌^◌, drop, fold}
use Rattle.std.specs.List.{list_all}
use Rattle.bq_job.specs.reading.Words as spec
use Rattle.bq_wire.proofs.line_read.job_id.Given as goal

-- the remaining digits turn the value so far into that of the whole word
abbrev pub invariant-loop-byte : goal.invariant-loop-byte
invariant-loop-byte l = record {
  digits : list_all spec.is_digit (drop l.byte-index l.word) ≡ list_all spec.is_digit l.word;
  fits : l.value < 2 ^ 64;
  value_is : fold spec.with_digit l.value (drop l.byte-index l.word) ≡ spec.value_of_digits l.word;
}
