-- The number at the beginning of a text.
use Rattle.std.specs.Prelude.{ℕ, ◌≡◌, true, List, ◌∷◌, ◌++◌, Option, Some}
use Rattle.std.specs.List.{list_all}
use Rattle.bq_job.specs.reading.Words.{is_digit}

-- the text is a word of digits that is read as this number, the byte `stop`, and the rest
pub record Leads (read : List ℕ → Option ℕ) (stop n : ℕ) (text rest : List ℕ) : Type 0 where
  pub word : List ℕ
  pub text_is : text ≡ word ++ stop ∷ rest
  pub digits : list_all is_digit word ≡ true
  pub read_is : read word ≡ Some n
