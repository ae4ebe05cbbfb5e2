-- The element at an index of a list.
use Rattle.std.specs.Prelude.{List, None, Option, Some, ℕ, slice_get}

abbrev pub item_at : {A : Type 0} → List A → Option ℕ → Option A
item_at xs None = None
item_at xs (Some i) = slice_get xs i
