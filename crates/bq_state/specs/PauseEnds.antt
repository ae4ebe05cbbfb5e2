-- The ordered ends of the pauses of tubes. An end has the number of its tube.
use Rattle.std.specs.{BTreeMap.{insert_entry, is_at}, Cmp.{IsTotalOrder, nat_cmp_total, on_total, then_total}}
use Rattle.std.specs.{List.list_any, Map.{keys_of, lookup, remove_entry}, Ordering.{nat_cmp, on}}
use Rattle.std.specs.{Ordering.then_cmp, Prelude.{Bool, List, None, Option, Some, [], count_by, false, find, if◌then◌else◌, is_some}}
use Rattle.std.specs.{Prelude.{length, map, nat_le, ℕ, ◌&&◌, ◌+◌, ◌==◌, ◌∷◌, ◌≡◌, ◌≤◌}, declared.cmp.Ordering.Ordering}
use Rattle.bq_index.specs.Catalog.{CatalogSeen}
use Rattle.bq_job.specs.{machine.{Pause, TubeRecord}, reading.TubeName.is_same_name}
use Rattle.bq_jobs.specs.{Names.{name_cmp, name_total}, Numbering.IsPaired, Table.Tabled}
use Rattle.bq_state.specs.{TubesSeen.{EntrySeen, Named, is_named_at, record_at}, declared.tubes.pauses.PauseEnd.PauseEnd}

-- by moment, then by number
abbrev pub end_cmp : PauseEnd → PauseEnd → Ordering
end_cmp = then_cmp (on (λ e. e.until) nat_cmp) (on (λ e. e.number) name_cmp)

pub end_total : IsTotalOrder end_cmp
end_total = then_total (on_total (λ e. e.until) nat_cmp_total) (on_total (λ e. e.number) name_total)

-- ends as they are in a shelf
abbrev pub Ends : Type 0
Ends = List (PauseEnd × Unit {0})

abbrev pub found_end : PauseEnd → Ends → Option (Unit {0})
found_end e ends = lookup (is_at (end_cmp e)) ends

abbrev pub has_end : PauseEnd → Ends → Bool
has_end e ends = is_some (found_end e ends)

-- the first one
abbrev pub first_end : Ends → Option PauseEnd
first_end [] = None
first_end (e ∷ ends) = Some e.0

-- the first one, if it is due
abbrev pub if_over : ℕ → Option PauseEnd → Option PauseEnd
if_over moment None = None
if_over moment (Some e) = if nat_le e.until moment then Some e else None

-- with one more end, if there is one, and without it
abbrev pub with_end : Option PauseEnd → Ends → Ends
with_end None ends = ends
with_end (Some e) ends = insert_entry end_cmp ends e tt

abbrev pub without_end : Option PauseEnd → Ends → Ends
without_end None ends = ends
without_end (Some e) ends = remove_entry (is_at (end_cmp e)) ends

-- the end of the pause of the tube with this number, if it has one
abbrev pub end_of : List ℕ → Option Pause → Option PauseEnd
end_of number None = None
end_of number (Some pause) = Some (record { until = pause.until; number = number })

-- the number of the tube with this name, as its end has it; an empty one if it has none
abbrev pub as_number : Option ℕ → List ℕ
as_number None = []
as_number (Some n) = n ∷ []

unfoldable pub number_at : List ℕ → List (List ℕ × ℕ) → List ℕ
number_at name numbers = as_number (lookup (is_named_at name) numbers)

abbrev pub pause_in : Option TubeRecord → Option Pause
pause_in None = None
pause_in (Some t) = t.pause

-- the pause of the tube with this name, from its entry
abbrev pub pause_at : List ℕ → List TubeRecord → Option Pause
pause_at name entries = pause_in (find (λ t. is_same_name name t.name) entries)

-- there is a pause, and it ends then
abbrev pub ends_at : ℕ → Option Pause → Bool
ends_at moment None = false
ends_at moment (Some pause) = pause.until == moment

abbrev pub is_end_of : List (List ℕ × ℕ) → PauseEnd → TubeRecord → Bool
is_end_of numbers e t = is_same_name e.number (number_at t.name numbers) && ends_at e.until t.pause

-- it is the end of the pause of one of these tubes
abbrev pub is_end_in : List (List ℕ × ℕ) → PauseEnd → List TubeRecord → Bool
is_end_in numbers e entries = list_any (is_end_of numbers e) entries

abbrev pub is_paused : TubeRecord → Bool
is_paused t = is_some t.pause

-- how many of the tubes of these entries are paused
abbrev pub paused_count : List Named → ℕ
paused_count es = count_by is_paused (map record_at es)

-- The ends of exactly the pauses of these tubes are kept, and there is a box for that of each tube.
pub record AreEnds (kept : Tabled EntrySeen) (ends : CatalogSeen PauseEnd (Unit {0})) : Type 0 where
  pub known : (e : PauseEnd) → has_end e ends.entries ≡ is_end_in kept.tubes.numbers e (map record_at kept.entries)
  pub counted : length ends.entries ≡ paused_count kept.entries
  pub roomy : length kept.entries ≤ length ends.entries + ends.spare

-- The tubes that have an entry are those that have a number, each one of its own.
pub record AreApart (kept : Tabled EntrySeen) : Type 0 where
  pub paired : IsPaired kept.tubes
  pub keys : keys_of kept.entries ≡ keys_of kept.tubes.numbers
