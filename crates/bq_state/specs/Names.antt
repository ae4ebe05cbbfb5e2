-- References to names.
use Rattle.std.specs.{Borrow.Bor, Prelude.{Bool, List, None, Option, Some, false, map, ℕ}}
use Rattle.bq_job.specs.reading.TubeName.{is_same_name}

-- the names that are referred to
abbrev pub names_of : List (Bor (List ℕ)) → List (List ℕ)
names_of names = map (λ name. name.now) names

-- there is a reference, and it is to this name
abbrev pub is_named : List ℕ → Option (Bor (List ℕ)) → Bool
is_named name None = false
is_named name (Some other) = is_same_name name other.now
