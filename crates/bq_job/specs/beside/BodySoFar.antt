-- A body that is being filled.
use Rattle.std.specs.Prelude.{ℕ, List}

-- its bytes, and how many more it has room for
pub record BodySoFar : Type 0 where
  pub bytes : List ℕ
  pub room : ℕ
