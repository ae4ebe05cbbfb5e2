-- What the core keeps of tubes: an entry for each that exists, so that nothing later needs an
-- allocation.
use Rattle.std.specs.{List.{AllByRecursion, list_any}, Prelude.{◌&&◌, ◌==◌, ◌||◌, ◌∷◌, ◌≡◌, if◌then◌else◌, Bool, List, None, Option}}
use Rattle.std.specs.Prelude.{Some, [], ℕ, false, filter, map, nat_le, not, true}
use Rattle.bq_job.specs.{declared.job.Job.Job, machine.{with_delete, with_pause, with_put, with_record}, reading.TubeName.is_same_name}
use Rattle.bq_job.specs.machine.{Pause as PauseRecord, SeatRecord, TubeRecord, default_tube, fresh_tube, is_name_before, is_seated_at}
use Rattle.bq_state.specs.declared.tubes.entry.TubeChange.{TubeChange, TheVariants.{CountDelete, CountPut, Pause}}

-- something was counted in the tube, so the model has a record of it
abbrev pub is_counted : TubeRecord → Bool
is_counted t = not (t.puts == 0 && t.deletes == 0 && t.pauses == 0)

-- the model's records of these entries
abbrev pub counted : List TubeRecord → List TubeRecord
counted entries = filter is_counted entries

abbrev pub has_entry : List ℕ → List TubeRecord → Bool
has_entry name entries = list_any (λ t. is_same_name name t.name) entries

-- the entries with one of this name
abbrev pub provided : List ℕ → List TubeRecord → List TubeRecord
provided name entries = if has_entry name entries then entries else with_record (fresh_tube name) entries

-- The entries are ordered by name, without duplicates.
abbrev pub AreInOrder : List TubeRecord → Type 0
AreInOrder [] = Unit {0}
AreInOrder (t ∷ entries) = AllByRecursion (λ u. is_name_before t.name u.name ≡ true) entries × AreInOrder entries

-- If nothing was counted, nothing is kept.
abbrev pub IsFreshUnlessCounted : TubeRecord → Type 0
IsFreshUnlessCounted t = is_counted t ≡ false → t ≡ fresh_tube t.name

abbrev pub tube_changed : TubeChange → TubeRecord → TubeRecord
tube_changed CountPut t = with_put t
tube_changed CountDelete t = with_delete t
tube_changed (Pause seconds moment) t = with_pause seconds moment t

abbrev pub tube_changed_at : List ℕ → TubeChange → TubeRecord → TubeRecord
tube_changed_at name change t = if is_same_name name t.name then tube_changed change t else t

-- A tube exists if it is the default tube, contains a job, or is used or watched by a connected
-- client.
abbrev pub is_tube_by : Bool → Bool → List ℕ → Bool
is_tube_by some seated name = is_same_name name default_tube || some || seated

-- A tube exists if it is the default tube, contains one of these jobs, or one of these seats uses
-- or watches it.
abbrev pub is_tube_of : List Job → List SeatRecord → List ℕ → Bool
is_tube_of jobs seats name =
    is_same_name name default_tube || list_any (λ j. is_same_name name j.tube) jobs || list_any (is_seated_at name) seats

-- the names of the entries of existing tubes, in order
abbrev pub names_alive : List Job → List SeatRecord → List TubeRecord → List (List ℕ)
names_alive jobs seats entries = map (λ t. t.name) (filter (λ t. is_tube_of jobs seats t.name) entries)

-- The tubes of a connected client have entries.
pub record HasTubes (entries : List TubeRecord) (s : SeatRecord) : Type 0 where
  pub used : s.connected ≡ true → has_entry s.used entries ≡ true
  pub watched : s.connected ≡ true → AllByRecursion (λ name. has_entry name entries ≡ true) s.watched

-- each tube that exists has an entry
pub record AreEntries (jobs : List Job) (seats : List SeatRecord) (entries : List TubeRecord) : Type 0 where
  pub order : AreInOrder entries
  pub fresh : AllByRecursion IsFreshUnlessCounted entries
  pub of_default : has_entry default_tube entries ≡ true
  pub of_jobs : AllByRecursion (λ j. has_entry j.tube entries ≡ true) jobs
  pub of_seats : AllByRecursion (HasTubes entries) seats

abbrev pub is_over : ℕ → Option PauseRecord → Bool
is_over moment None = false
is_over moment (Some pause) = nat_le pause.until moment

-- the tube's pause is due, or has ended
abbrev pub is_pause_over : ℕ → TubeRecord → Bool
is_pause_over moment t = is_over moment t.pause
