-- A body with a number.
use Rattle.std.specs.Prelude.{ℕ, List}

-- the bytes of the body, and the number
pub record NumberedBytes : Type 0 where
  pub bytes : List ℕ
  pub number : ℕ
