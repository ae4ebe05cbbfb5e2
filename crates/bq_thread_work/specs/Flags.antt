-- One flag for each place.
use Rattle.std.specs.Prelude.{ℕ, ◌≡◌, ◌<◌, Bool, true, false, List, length, slice_index_or}

-- All of these flags are set.
abbrev pub AreAllSet : List Bool → Type 0
AreAllSet flags = (place : ℕ) → place < length flags → slice_index_or flags place false ≡ true
