-- Numbers of 64 bits, which stop at their largest value.
use Rattle.std.specs.Prelude.{ℕ, ◌+◌, ◌-◌, ◌*◌, ◌^◌, min}

-- the largest moment, ticket or count
abbrev pub greatest : ℕ
greatest = 2 ^ 64 - 1

-- a count that has grown by `n`
abbrev pub grown : ℕ → ℕ → ℕ
grown n count = min (count + n) greatest

-- a count that has grown by one
abbrev pub raised : ℕ → ℕ
raised count = grown 1 count

-- the moment `seconds` later; a moment is in milliseconds
abbrev pub later : ℕ → ℕ → ℕ
later moment seconds = min (moment + seconds * 1000) greatest
