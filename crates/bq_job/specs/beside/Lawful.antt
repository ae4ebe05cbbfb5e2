-- What holds of the model after every step: its invariant.
use Rattle.std.specs.Prelude.{ℕ, suc, Bool, true, false, ◌≡◌, ◌≤◌, ◌&&◌, ◌||◌, not, nat_le, None, List, [], ◌∷◌, map, IsTrue}
use Rattle.std.specs.List.{list_all, list_any}
use Rattle.bq_job.specs.machine.{Machine.Machine, SeatRecord, greatest, is_held_by, is_reserved, is_tube, is_waiting, last_id, next_end}
use Rattle.bq_job.specs.{beside.NameOrder.is_in_order, declared.job.Job.Job, machine.{next_job, numbers}}
use Rattle.bq_job.specs.reading.TubeName.{is_same_name}

-- The ids increase strictly along the list, and are at least `low` and below `next`.
abbrev pub AreIdsWithin : ℕ → List Job → ℕ → Type 0
AreIdsWithin low [] next = low ≤ next
AreIdsWithin low (j ∷ jobs) next = (low ≤ j.id) × AreIdsWithin (suc j.id) jobs next

-- If a client holds the job, it is connected.
abbrev pub has_open_holder : Machine → Job → Bool
has_open_holder m j = not (is_reserved j.state) || list_any (λ s. s.connected && is_held_by s.number j) m.seats

-- the counters that the model keeps
abbrev pub counters : Machine → List ℕ
counters m = m.timeouts ∷ m.puts ∷ m.connections ∷ m.burials ∷ m.tickets ∷ []

abbrev pub has_one : List (List ℕ) → Bool
has_one [] = false
has_one (name ∷ names) = true

abbrev pub none_twice : List (List ℕ) → Bool
none_twice [] = true
none_twice (name ∷ names) = not (list_any (is_same_name name) names) && none_twice names

-- At least one tube is watched, and none twice.
abbrev pub watches_once : SeatRecord → Bool
watches_once s = has_one s.watched && none_twice s.watched

pub record IsLawful (m : Machine) : Type 0 where
  -- Each job has an id of its own, below the next id.
  pub ids : AreIdsWithin 1 m.jobs m.next_id
  -- The model drains before the ids run out.
  pub next : m.draining ≡ false → m.next_id ≤ last_id
  pub next_fits : m.next_id ≤ suc last_id
  -- A reserved job is held by the connection that its state names, and that connection is open.
  pub holders : IsTrue (list_all (has_open_holder m) m.jobs)
  pub seats : map (λ s. s.number) m.seats ≡ numbers 0 m.settings.seats
  -- A waiting client is connected.
  pub waits : IsTrue (list_all (λ s. not (is_waiting s) || s.connected) m.seats)
  -- No waiting client may have a ready job.
  pub dispatched : next_job m ≡ None
  -- No wait would end now.
  pub wait_ends : next_end m ≡ None
  -- No record is kept of a tube that does not exist.
  pub tubes : IsTrue (list_all (λ t. is_tube t.name m) m.tubes)
  -- The records are ordered by name, so no name occurs twice.
  pub tube_order : IsTrue (is_in_order (map (λ t. t.name) m.tubes))
  -- Each seat watches at least one tube, and none twice.
  pub watched : IsTrue (list_all watches_once m.seats)
  -- Counters stop at their largest value.
  pub counts : IsTrue (list_all (λ n. nat_le n greatest) (counters m))
