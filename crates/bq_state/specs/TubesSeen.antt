-- The tubes that have an entry.
use Rattle.std.specs.{BTreeMap.{insert_entry, is_at}, Cmp.Lexicographic.slice_cmp, Map.{lookup, remove_entry, set_value}, Ordering.is_gt}
use Rattle.std.specs.{Ordering.nat_cmp, Prelude.{Bool, List, None, Option, Some, [], false, fold, if◌then◌else◌, is_some, map, not, true}}
use Rattle.std.specs.Prelude.{ℕ, ◌&&◌, ◌∷◌, ◌≡◌}
use Rattle.bq_index.specs.Edited.{edited_if}
use Rattle.bq_job.specs.{declared.job.Job.Job, machine.{Pause, TubeRecord, default_tube, pause_after_timers, raised}}
use Rattle.bq_job.specs.reading.TubeName.{is_same_name}
use Rattle.bq_jobs.specs.declared.numbered_jobs.{JobMove.JobMove, JobRemoval.JobRemoval}
use Rattle.bq_state.specs.{Crowds.{has_seats, no_crowd, recounted}, Tallies.{has_jobs, tally_left, tally_moved, tally_of, tally_with}}
use Rattle.bq_state.specs.{TubeEntries.{is_tube_by, tube_changed}, declared.{known.tally.Tally.Tally, tubes.entry.AddOrRemove.AddOrRemove}}
use Rattle.bq_state.specs.declared.tubes.entry.{Crowd.Crowd, Roles.Roles, TubeChange.{TheVariants.{CountDelete, CountPut}, TubeChange}}

-- what contracts see of an entry: what is kept of a tube besides its name
pub record EntrySeen : Type 0 where
  pub pause : Option Pause
  pub puts : ℕ
  pub deletes : ℕ
  pub pauses : ℕ
  -- the counts of the tube's jobs and of its clients
  pub tally : Tally
  pub crowd : Crowd

-- an entry with its name
abbrev pub Named : Type 0
Named = List ℕ × EntrySeen

-- what contracts see of the tubes: the entries, in the order of their names, and the number of each tube by its name
pub record TubesSeen : Type 0 where
  pub entries : List Named
  pub numbers : List (List ℕ × ℕ)

-- the record of a tube
abbrev pub record_of : List ℕ → EntrySeen → TubeRecord
record_of name t = record { name = name; pause = t.pause; puts = t.puts; deletes = t.deletes; pauses = t.pauses }

abbrev pub record_at : Named → TubeRecord
record_at e = record_of e.0 e.1

-- the records of the tubes that have an entry
abbrev pub records : TubesSeen → List TubeRecord
records k = map record_at k.entries

-- the entry of a tube to which nothing has happened
abbrev pub fresh_entry : EntrySeen
fresh_entry = record { pause = None; puts = 0; deletes = 0; pauses = 0; tally = tally_of []; crowd = no_crowd }

-- only the default tube, without jobs and clients
abbrev pub first_tubes : List (List ℕ × ℕ) → TubesSeen
first_tubes numbers = record { entries = (default_tube, fresh_entry) ∷ []; numbers = numbers }

-- the change keeps the pause
abbrev pub KeepsPause : (EntrySeen → EntrySeen) → Type 0
KeepsPause f = (t : EntrySeen) → (f t).pause ≡ t.pause

-- the entry after this happened to the tube
abbrev pub entry_after : TubeRecord → EntrySeen → EntrySeen
entry_after r t = record { pause = r.pause; puts = r.puts; deletes = r.deletes; pauses = r.pauses; tally = t.tally; crowd = t.crowd }

abbrev pub entry_changed : TubeChange → EntrySeen → EntrySeen
entry_changed what t = entry_after (tube_changed what (record_of [] t)) t

-- with one more job, that was put
abbrev pub entry_with : Job → EntrySeen → EntrySeen
entry_with j t = record (entry_changed CountPut t) { tally = tally_with j t.tally }

-- with one job fewer, that was deleted, from the report about it
abbrev pub entry_without : JobRemoval → EntrySeen → EntrySeen
entry_without r t = record (entry_changed CountDelete t) { tally = tally_left r.at t.tally }

-- with a job whose state changed
abbrev pub entry_moved : JobMove → EntrySeen → EntrySeen
entry_moved m t = record t { tally = tally_moved m t.tally }

-- with a client of these roles counted, or no longer counted
abbrev pub entry_recounted : AddOrRemove → Roles → EntrySeen → EntrySeen
entry_recounted how roles t = record t { crowd = recounted how roles t.crowd }

-- the entry after its pause has ended, if it is due
abbrev pub ended : ℕ → EntrySeen → EntrySeen
ended moment t = record t { pause = pause_after_timers moment t.pause }

-- an entry with f applied to it if it has this name
abbrev pub changed_named : List ℕ → (EntrySeen → EntrySeen) → Named → Named
changed_named name f e = (e.0, if is_same_name name e.0 then f e.1 else e.1)

-- the tubes with f applied to the entry of this name
abbrev pub with_entry : List ℕ → (EntrySeen → EntrySeen) → TubesSeen → TubesSeen
with_entry name f k = record k { entries = map (changed_named name f) k.entries }

-- and to the entry of each of these names
abbrev pub with_entries : List (List ℕ) → (EntrySeen → EntrySeen) → TubesSeen → TubesSeen
with_entries names f k = fold (λ k name. with_entry name f k) k names

-- the tubes after due pauses have ended
abbrev pub with_ended : ℕ → List Named → List Named
with_ended moment es = map (λ e. (e.0, ended moment e.1)) es

-- the tubes after one got an entry and a number
abbrev pub tubes_with : List ℕ → List (List ℕ × ℕ) → TubesSeen → TubesSeen
tubes_with name numbers k = record { entries = insert_entry (slice_cmp nat_cmp) k.entries name fresh_entry; numbers = numbers }

-- the test of names in a lookup of this one
abbrev pub is_named_at : List ℕ → List ℕ → Bool
is_named_at name = is_at (slice_cmp nat_cmp name)

-- the entries with f applied to the one that was found
abbrev pub edited : List ℕ → (EntrySeen → EntrySeen) → Option EntrySeen → List Named → List Named
edited name f found es = edited_if f (set_value (is_named_at name) es) es found

-- the entries with f applied to the one with this name, if there is one
abbrev pub edited_at : List ℕ → (EntrySeen → EntrySeen) → List Named → List Named
edited_at name f es = edited name f (lookup (is_named_at name) es) es

-- the entry with this name, if there is one
abbrev pub entry_at : List ℕ → TubesSeen → Option EntrySeen
entry_at name k = lookup (is_named_at name) k.entries

-- whether a tube is paused, from its entry, if it has one
abbrev pub is_paused_by : Option EntrySeen → Bool
is_paused_by None = false
is_paused_by (Some t) = is_some t.pause

-- the counts, from its entry
abbrev pub tally_by : Option EntrySeen → Tally
tally_by None = tally_of []
tally_by (Some t) = t.tally

abbrev pub crowd_by : Option EntrySeen → Crowd
crowd_by None = no_crowd
crowd_by (Some t) = t.crowd

-- whether the tube of an entry exists
abbrev pub is_alive_with : List ℕ → EntrySeen → Bool
is_alive_with name t = is_tube_by (has_jobs t.tally) (has_seats t.crowd) name

abbrev pub is_alive_at : Named → Bool
is_alive_at e = is_alive_with e.0 e.1

-- one more if the tube exists
abbrev pub with_alive : ℕ → List ℕ → EntrySeen → ℕ
with_alive count name t = if is_alive_with name t then raised count else count

-- whether this entry, if there is one, is of a tube that no longer exists
abbrev pub is_gone_by : List ℕ → Option EntrySeen → Bool
is_gone_by name None = false
is_gone_by name (Some t) = not (is_alive_with name t)

-- without the entry of this name, if its tube no longer exists
abbrev pub without_gone : List ℕ → List Named → List Named
without_gone name es = if is_gone_by name (lookup (is_named_at name) es) then remove_entry (is_named_at name) es else es

-- not before this name, if there is one
abbrev pub is_from : Option (List ℕ) → Named → Bool
is_from None e = true
is_from (Some name) e = not (is_gt (slice_cmp nat_cmp name e.0))

-- an entry from there on whose tube no longer exists
abbrev pub is_gone_from : Option (List ℕ) → Named → Bool
is_gone_from from e = is_from from e && not (is_alive_at e)
