-- Which tubes exist, and what is kept of them.
use Rattle.std.specs.{Cmp.Lexicographic.slice_cmp, List.list_any, Ordering.{is_lt, nat_cmp}, Prelude.{◌&&◌, ◌||◌, ◌∷◌}}
use Rattle.std.specs.Prelude.{if◌then◌else◌, Bool, List, None, [], ℕ, filter, find, is_some, unwrap_or}
use Rattle.bq_job.specs.{machine.Machine.{Machine, SeatRecord, TubeRecord, default_tube}, reading.TubeName.is_same_name}

abbrev pub watches : List ℕ → SeatRecord → Bool
watches name s = list_any (is_same_name name) s.watched

-- whether a connected client at the seat uses or watches the tube
abbrev pub is_seated_at : List ℕ → SeatRecord → Bool
is_seated_at name s = s.connected && (is_same_name name s.used || watches name s)

-- A tube exists if it is the default tube, contains a job, or is used or watched by a connected
-- client.
abbrev pub is_tube : List ℕ → Machine → Bool
is_tube name m = is_same_name name default_tube || list_any (λ j. is_same_name name j.tube) m.jobs || list_any (is_seated_at name) m.seats

-- Pauses and counters of tubes that no longer exist are forgotten.
abbrev pub forgetting : Machine → Machine
forgetting m = record m { tubes = filter (λ t. is_tube t.name m) m.tubes }

-- the record of a tube that has none yet
abbrev pub fresh_tube : List ℕ → TubeRecord
fresh_tube name = record { name = name; pause = None; puts = 0; deletes = 0; pauses = 0 }

-- what is kept of the tube
abbrev pub tube_record : List ℕ → Machine → TubeRecord
tube_record name m = unwrap_or (find (λ t. is_same_name name t.name) m.tubes) (fresh_tube name)

abbrev pub is_paused : List ℕ → Machine → Bool
is_paused name m = is_some (tube_record name m).pause

-- the byte order of names
abbrev pub is_name_before : List ℕ → List ℕ → Bool
is_name_before a b = is_lt (slice_cmp nat_cmp a b)

-- the records with this one inserted in order; it replaces one of the same name
abbrev pub with_record : TubeRecord → List TubeRecord → List TubeRecord
with_record t [] = t ∷ []
with_record t (u ∷ us) =
    if is_same_name t.name u.name then t ∷ us else (if is_name_before t.name u.name then t ∷ u ∷ us else u ∷ with_record t us)

-- the record of the tube with this name is changed by f
abbrev pub with_tube : List ℕ → (TubeRecord → TubeRecord) → Machine → Machine
with_tube name f m = record m { tubes = with_record (f (tube_record name m)) m.tubes }
