-- Names in byte order.
use Rattle.std.specs.Prelude.{ℕ, Bool, true, ◌&&◌, List, [], ◌∷◌}
use Rattle.bq_job.specs.machine.{is_name_before}

-- Each name comes before the next one, so no name occurs twice.
abbrev pub is_in_order : List (List ℕ) → Bool
is_in_order [] = true
is_in_order (name ∷ []) = true
is_in_order (name ∷ next ∷ names) = is_name_before name next && is_in_order (next ∷ names)
