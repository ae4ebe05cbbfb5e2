-- The words of a command line, and the numbers and names that they can denote.
use Rattle.std.specs.{List.{list_all, slice_split}, Prelude.{◌&&◌, ◌*◌, ◌+◌, ◌-◌, ◌==◌, ◌^◌, if◌then◌else◌, Bool, List}}
use Rattle.std.specs.Prelude.{None, Option, Some, ℕ, fold, length, nat_le, nat_lt}
use Rattle.bq_job.specs.reading.TubeName.{is_tube_name}

-- a command line split at each space; words may be empty
abbrev pub words : List ℕ → List (List ℕ)
words line = slice_split (λ b. b == 32) line

abbrev pub is_digit : ℕ → Bool
is_digit b = nat_le 48 b && nat_le b 57

-- one digit or more; leading zeros are allowed
abbrev pub are_digits : List ℕ → Bool
are_digits word = nat_le 1 (length word) && list_all is_digit word

abbrev pub with_digit : ℕ → ℕ → ℕ
with_digit n b = n * 10 + (b - 48)

abbrev pub value_of_digits : List ℕ → ℕ
value_of_digits word = fold with_digit 0 word

-- the number that a word denotes, if it is below the limit
abbrev pub number_below : ℕ → List ℕ → Option ℕ
number_below limit word =
    if are_digits word && nat_lt (value_of_digits word) limit then Some (value_of_digits word) else None

-- a job's id is below 2^64
abbrev pub job_id : List ℕ → Option ℕ
job_id = number_below (2 ^ 64)

-- any other number is below 2^32
abbrev pub number : List ℕ → Option ℕ
number = number_below (2 ^ 32)

abbrev pub tube_name : List ℕ → Option (List ℕ)
tube_name word = if is_tube_name word then Some word else None
