-- The tubes that exist, and the order in which names are listed.
use Rattle.std.specs.Prelude.{ℕ, if◌then◌else◌, List, [], ◌∷◌, ◌++◌, fold, map, flat_map, codes}
use Rattle.bq_job.specs.machine.{Machine.{Machine, SeatRecord, default_tube}, Tubes.is_name_before}
use Rattle.bq_job.specs.{reading.TubeName.is_same_name, texts.Yaml.name_line}

-- the names with this one inserted in byte order, unless it is there already
abbrev pub with_name : List (List ℕ) → List ℕ → List (List ℕ)
with_name [] name = name ∷ []
with_name (other ∷ names) name =
    if is_same_name name other then other ∷ names
    else (if is_name_before name other then name ∷ other ∷ names else other ∷ with_name names name)

-- the names in byte order, each once
abbrev pub in_name_order : List (List ℕ) → List (List ℕ)
in_name_order names = fold with_name [] names

-- the tubes that the client at a seat uses and watches, if there is a client
abbrev pub seated_tubes : SeatRecord → List (List ℕ)
seated_tubes s = if s.connected then s.used ∷ s.watched else []

-- All tubes that exist, in byte order, each once: the default tube, those of jobs, and those that
-- connected clients use or watch.
abbrev pub tubes : Machine → List (List ℕ)
tubes m = in_name_order (default_tube ∷ map (λ j. j.tube) m.jobs ++ flat_map seated_tubes m.seats)

-- A list: a line `- name` for each name, in byte order.
abbrev pub name_list : List (List ℕ) → List ℕ
name_list names = codes "---\n" ++ flat_map name_line (in_name_order names)
