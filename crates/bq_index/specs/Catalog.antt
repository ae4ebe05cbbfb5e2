-- What a contract sees of a catalog.
use Rattle.std.specs.Prelude.{ℕ, List}

-- the entries in the order of their keys, and the number of spare boxes
pub record CatalogSeen (K V : Type 0) : Type 0 where
  pub entries : List (K × V)
  pub spare : ℕ
