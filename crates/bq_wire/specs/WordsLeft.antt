-- The remaining words of a command line.
use Rattle.std.specs.Prelude.{ℕ, ◌==◌, Bool, not, List, [], Option, Some, None}
use Rattle.std.specs.Borrow.{Bor}
use Rattle.bq_job.specs.reading.Words.{words}

abbrev pub words_left : Option (Bor (List ℕ)) → List (List ℕ)
words_left None = []
words_left (Some rest) = words rest.now

-- a byte that is no space
abbrev pub is_letter : ℕ → Bool
is_letter b = not (b == 32)
