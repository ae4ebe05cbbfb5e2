-- A reading of a clock, encoded as a number: 0 if it failed, otherwise its moment plus one.
use Rattle.std.specs.Prelude.{ℕ, zero, suc, Option, Some, None}

abbrev pub number_of_reading : Option ℕ → ℕ
number_of_reading None = 0
number_of_reading (Some moment) = suc moment

abbrev pub reading_of_number : ℕ → Option ℕ
reading_of_number zero = None
reading_of_number (suc moment) = Some moment
