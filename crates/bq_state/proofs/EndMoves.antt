-- How the ends of pauses change when a pause changes, or a tube is added or removed.
use Rattle.std.proofs.Common.{List, None, Option, Some, [], ap, arith, cond, false, if◌then◌else◌, is_some, length, map, refl, rules, subst}
use Rattle.std.proofs.{Common.{sym, true, ℕ, ◌+◌, ◌<◌, ◌∙◌, ◌∷◌, ◌≡◌, ◌≤◌, ◌⊎◌}, lemmas.{Bool.or_parts, Cmp.nat_list_eq_equiv}}
use Rattle.std.{proofs.lemmas.{Grind.common_steps, List.length-map}, specs.{BTreeMap.insert_entry, Cmp.Lexicographic.nat_list_cmp_total}}
use Rattle.std.specs.{Cmp.Lexicographic.slice_cmp, List.{AllByRecursion as All, Sorted.IsStrictlySortedBy, list_any}, Map.{keys_of, lookup}}
use Rattle.std.specs.{Map.remove_entry, Option.{ForSome, option_map}, Ordering.nat_cmp, Prelude.{count_by, nat_le, ◌&&◌}}
use Rattle.bq_index.{proofs.Order.{length_inserted, length_lost, order_remove}, specs.{Catalog.CatalogSeen, Order.InOrder}}
use Rattle.bq_job.{proofs.ListLemmas.{all_weaker, list_any_not}, specs.machine.{Pause, TubeRecord, fresh_tube, pause_after_timers}}
use Rattle.bq_job.specs.{machine.with_record, reading.TubeName.is_same_name}
use Rattle.bq_jobs.{proofs.Choice.lookup_removed, specs.{JobsSeen.JobsSeen, Names.number_in, Numbering.{Numbering, number_of}}}
use Rattle.bq_jobs.specs.Table.{Tabled}
use Rattle.bq_state.proofs.{EndLemmas.{has_entered, has_left, one_over}, NamedLemmas.{found_any, found_entry, have_numbers, in_order, ties}}
use Rattle.bq_state.proofs.NumberLemmas.{IsTold, number_inserted, number_left, number_read, told}
use Rattle.bq_state.proofs.TubeLemmas.{before_differs, same_itself, same_name}
use Rattle.bq_state.specs.PauseEnds.{AreApart, AreEnds, Ends, end_cmp, end_of, ends_at, first_end, found_end, has_end, if_over}
use Rattle.bq_state.specs.PauseEnds.{is_end_in, is_paused, number_at, pause_at, pause_in, paused_count, with_end, without_end}
use Rattle.bq_state.specs.{Store.AreStored, TubeEntries.{AreInOrder, has_entry}, TubesSeen.{EntrySeen, Named, edited_at, ended}}
use Rattle.bq_state.specs.TubesSeen.{entry_changed, is_named_at, record_at, record_of, with_ended}
use Rattle.bq_state.specs.declared.tubes.{entry.TubeChange.{TheVariants.{CountDelete, CountPut}, TubeChange}, pauses.PauseEnd.PauseEnd}

abbrev records_in : Tabled EntrySeen → List TubeRecord
records_in kept = map record_at kept.entries

-- At most the pause of the tube with this number changes.
pub record Moves (number : List ℕ) (from to : Option Pause) (kept last : Tabled EntrySeen) : Type 0 where
  pub was : (until : ℕ) → is_end_in kept.tubes.numbers (record { until = until; number = number }) (records_in kept) ≡ ends_at until from
  pub is : (until : ℕ) → is_end_in last.tubes.numbers (record { until = until; number = number }) (records_in last) ≡ ends_at until to
  pub others : (q : PauseEnd) → is_same_name number q.number ≡ false
      → is_end_in last.tubes.numbers q (records_in last) ≡ is_end_in kept.tubes.numbers q (records_in kept)
  pub count : paused_count last.entries + cond (is_some from) 1 0 ≡ paused_count kept.entries + cond (is_some to) 1 0
  pub fewer : length last.entries ≤ length kept.entries

module _ (name : List ℕ) (numbers : List (List ℕ × ℕ)) where
  -- Numbers tell the tubes apart, and names are in order, so only one tube has a number.
  by_name : (until : ℕ) (ts : List TubeRecord) → All (IsTold numbers name) ts
      → is_end_in numbers (record { until = until; number = number_at name numbers }) ts
      ≡ list_any (λ t. is_same_name name t.name && ends_at until t.pause) ts
  by_name until [] told = refl
  by_name until (t ∷ ts) told = grind (arith, by_name until ts told.1)

  one_named : (until : ℕ) (ts : List TubeRecord) → AreInOrder ts
      → list_any (λ t. is_same_name name t.name && ends_at until t.pause) ts ≡ ends_at until (pause_at name ts)
  one_named until [] order = refl
  one_named until (t ∷ ts) order =
      grind (arith, same_name name t.name, before_differs, list_any_not, all_weaker, one_named until ts order.1)

  named_ends : (until : ℕ) (ts : List TubeRecord) → AreInOrder ts → All (IsTold numbers name) ts
      → is_end_in numbers (record { until = until; number = number_at name numbers }) ts ≡ ends_at until (pause_at name ts)
  named_ends until ts order told = by_name until ts told ∙ one_named until ts order

-- the pause of an entry that was looked up
pub pause_is : (name : List ℕ) (es : List Named)
    → pause_at name (map record_at es) ≡ pause_in (option_map (record_of name) (lookup (is_named_at name) es))
pause_is name es = ap pause_in (sym (found_entry name es))

-- the end of the pause of a tube that was looked up
pub no_end : (name : List ℕ) (kept : Tabled EntrySeen) (k : Numbering) (r : Option (List ℕ)) → option_map number_in r ≡ number_of name k
    → k.numbers ≡ kept.tubes.numbers → keys_of kept.entries ≡ keys_of kept.tubes.numbers → r ≡ None
    → None ≡ end_of (number_at name kept.tubes.numbers) (pause_at name (map record_at kept.entries))
no_end name kept k r is same keys none =
    grind (arith, have_numbers kept.entries kept.tubes.numbers keys name, found_any name kept.entries, pause_is name kept.entries)

pub some_end : (name : List ℕ) (kept : Tabled EntrySeen) (k : Numbering) (n : List ℕ) (t : EntrySeen) (r : Option PauseEnd)
    → n ≡ number_in n ∷ [] → Some (number_in n) ≡ number_of name k → k.numbers ≡ kept.tubes.numbers
    → Some t ≡ lookup (is_named_at name) kept.entries → r ≡ end_of n t.pause
    → r ≡ end_of (number_at name kept.tubes.numbers) (pause_at name (map record_at kept.entries))
some_end name kept k n t r alone is same found end = grind (arith, number_read, pause_is)

-- The end of a tube's pause is one of the ends.
pub end_held : (name : List ℕ) (kept : Tabled EntrySeen) (ends : CatalogSeen PauseEnd (Unit {0})) (from : Option PauseEnd)
    → AreEnds kept ends → InOrder (slice_cmp nat_cmp) kept.entries → AreApart kept
    → from ≡ end_of (number_at name kept.tubes.numbers) (pause_at name (map record_at kept.entries))
    → ForSome from (λ e. has_end e ends.entries ≡ true)
end_held name kept ends from h order apart was e is = grind (arith, common_steps, h.known e, named_ends, in_order, told kept apart name)

-- The end of the pause is removed, and that of the new pause is added.
module _ (number : List ℕ) (old next : Option Pause) (kept new : Tabled EntrySeen) (ends mid : CatalogSeen PauseEnd (Unit {0}))
    (from to : Option PauseEnd) (h : AreEnds kept ends) (m : Moves number old next kept new) (was : from ≡ end_of number old)
    (is : to ≡ end_of number next) (left : mid.entries ≡ without_end from ends.entries)
    (s : ForSome from (λ _. InOrder end_cmp ends.entries)) (spare : mid.spare ≡ ends.spare + cond (is_some from) 1 0) where
  from_held : ForSome from (λ e. has_end e ends.entries ≡ true)
  from_held e some = grind (arith, common_steps, h.known e, m.was e.until)

  known_left : (q : PauseEnd) → has_end q mid.entries ≡ (if is_same_name number q.number then false else has_end q ends.entries)
  known_left q = grind (arith, common_steps, has_left, h.known q, m.was q.until, same_name number q.number)

  -- which is absent,
  pub end_absent : ForSome to (λ e. found_end e mid.entries ≡ None)
  end_absent e some = grind (arith, common_steps, known_left, same_itself)

  known_last : (last : Ends) → last ≡ with_end to mid.entries → (q : PauseEnd)
      → has_end q last ≡ is_end_in new.tubes.numbers q (map record_at new.entries)
  known_last last e q =
      grind (arith, common_steps, has_entered, end_absent, same_name number q.number, m.is q.until, m.others q, known_left)

  -- and the ends are again those of the pauses.
  pub ends_moved : (last : CatalogSeen PauseEnd (Unit {0})) → last.entries ≡ with_end to mid.entries
      → last.spare + cond (is_some to) 1 0 ≡ mid.spare → AreEnds new last
  ends_moved last entries rest = search (rules, known_last, length_inserted, end_absent, length_lost, from_held)

-- What is kept about a tube changes.
module _ (name : List ℕ) (f : EntrySeen → EntrySeen) where
  module _ (numbers : List (List ℕ × ℕ)) where
    others_edited : (q : PauseEnd) → is_same_name (number_at name numbers) q.number ≡ false
        → (es : List Named) → is_end_in numbers q (map record_at (edited_at name f es)) ≡ is_end_in numbers q (map record_at es)
    others_edited q other [] = refl
    others_edited q other (x ∷ es) = grind (arith, common_steps, ties, same_name name x.0, nat_list_eq_equiv.symm, others_edited q other es)

    told_edited : (es : List Named) → All (IsTold numbers name) (map record_at es)
        → All (IsTold numbers name) (map record_at (edited_at name f es))
    told_edited [] told = tt
    told_edited (x ∷ es) told = grind (arith, told_edited es told.1)

  names_edited : (es : List Named) → keys_of (edited_at name f es) ≡ keys_of es
  names_edited [] = refl
  names_edited (x ∷ es) = grind (arith, names_edited es)

  count_edited : (es : List Named)
      → paused_count (edited_at name f es) + cond (is_some (pause_at name (map record_at es))) 1 0
      ≡ paused_count es + cond (is_some (pause_at name (map record_at (edited_at name f es)))) 1 0
  count_edited [] = refl
  count_edited (x ∷ es) = grind (arith, common_steps, ties name x.0, same_name name x.0, count_edited es)

  module _ (kept last : Tabled EntrySeen) (n : last.tubes ≡ kept.tubes) (e : last.entries ≡ edited_at name f kept.entries) where
    same_names : keys_of last.entries ≡ keys_of kept.entries
    same_names = ap keys_of e ∙ names_edited kept.entries

    as_many : length last.entries ≡ length kept.entries
    as_many = grind (arith, length-map, same_names)

    pub edit_moves : InOrder (slice_cmp nat_cmp) kept.entries → AreApart kept → Moves (number_at name kept.tubes.numbers)
        (pause_at name (map record_at kept.entries)) (pause_at name (map record_at last.entries)) kept last
    edit_moves order apart = record {
      was = λ until. named_ends name kept.tubes.numbers until (map record_at kept.entries) (in_order kept.entries order)
          (told kept apart name);
      is = λ until. rw n (named_ends name kept.tubes.numbers until (map record_at last.entries)
          (in_order last.entries (subst (IsStrictlySortedBy (slice_cmp nat_cmp)) (sym same_names) order))
          (rw e (told_edited kept.tubes.numbers kept.entries (told kept apart name))));
      others = λ q other. rw (n, e) (others_edited kept.tubes.numbers q other kept.entries);
      count = rw e (count_edited kept.entries);
      fewer = omega (arith, as_many);
    }

    -- If the change keeps the pause, it keeps the ends.
    module _ (paused : (t : EntrySeen) → (f t).pause ≡ t.pause) where
      same_ends : (q : PauseEnd) (es : List Named)
          → is_end_in kept.tubes.numbers q (map record_at (edited_at name f es)) ≡ is_end_in kept.tubes.numbers q (map record_at es)
      same_ends q [] = refl
      same_ends q (x ∷ es) = grind (arith, common_steps, paused x.1, same_ends q es)

      same_count : (es : List Named) → paused_count (edited_at name f es) ≡ paused_count es
      same_count [] = refl
      same_count (x ∷ es) = grind (arith, common_steps, paused x.1, same_count es)

      pub edit_stays : (ends : CatalogSeen PauseEnd (Unit {0})) → AreEnds kept ends → AreEnds last ends
      edit_stays ends h = grind (arith, same_ends, same_count, as_many)

      pub edit_stored : (rows : JobsSeen) (ends : CatalogSeen PauseEnd (Unit {0})) → AreStored rows kept ends → AreStored rows last ends
      edit_stored rows ends h = record { registered = rw n h.registered; ends = edit_stays ends h.ends }

-- the tube is removed or added
module _ (name : List ℕ) where
  -- The other tubes keep their numbers.
  renumbered : (numbers new : List (List ℕ × ℕ)) → ((k : List ℕ) → is_same_name name k ≡ false → number_at k new ≡ number_at k numbers)
      → (q : PauseEnd) (ts : List TubeRecord) → has_entry name ts ≡ false → is_end_in new q ts ≡ is_end_in numbers q ts
  renumbered numbers new same q [] none = refl
  renumbered numbers new same q (t ∷ ts) none = grind (arith, or_parts, same t.name, renumbered numbers new same q ts)

  abbrev left : List Named → List Named
  left es = remove_entry (is_named_at name) es

  abbrev numbers_left : List (List ℕ × ℕ) → List (List ℕ × ℕ)
  numbers_left numbers = remove_entry (is_named_at name) numbers

  none_left : (es : List Named) → InOrder (slice_cmp nat_cmp) es → lookup (is_named_at name) (left es) ≡ None
  none_left es order = grind (arith, lookup_removed nat_list_cmp_total name name es order, ties, same_itself)

  no_entry_left : (es : List Named) → InOrder (slice_cmp nat_cmp) es → has_entry name (map record_at (left es)) ≡ false
  no_entry_left es order = sym (found_any name (left es)) ∙ ap is_some (none_left es order)

  others_left : (numbers : List (List ℕ × ℕ)) (q : PauseEnd) → is_same_name (number_at name numbers) q.number ≡ false
      → (es : List Named) → is_end_in numbers q (map record_at (left es)) ≡ is_end_in numbers q (map record_at es)
  others_left numbers q other [] = refl
  others_left numbers q other (x ∷ es) =
      grind (arith, common_steps, ties, same_name name x.0, nat_list_eq_equiv.symm, others_left numbers q other es)

  renumbered_left : (numbers : List (List ℕ × ℕ)) (es : List Named) → InOrder (slice_cmp nat_cmp) es → (q : PauseEnd)
      → is_end_in (numbers_left numbers) q (map record_at (left es)) ≡ is_end_in numbers q (map record_at (left es))
  renumbered_left numbers es order q = grind (arith, renumbered, number_left, no_entry_left)

  told_left : (numbers : List (List ℕ × ℕ)) (es : List Named) → All (IsTold numbers name) (map record_at es)
      → All (IsTold numbers name) (map record_at (left es))
  told_left numbers [] told = tt
  told_left numbers (x ∷ es) told = grind (arith, told_left numbers es told.1)

  is_left : (numbers : List (List ℕ × ℕ)) (es : List Named) → InOrder (slice_cmp nat_cmp) es → All (IsTold numbers name) (map record_at es)
      → (until : ℕ)
      → is_end_in (numbers_left numbers) (record { until = until; number = number_at name numbers }) (map record_at (left es)) ≡ false
  is_left numbers es order told until = grind (arith, renumbered_left, named_ends, in_order, order_remove, told_left, pause_is, none_left)

  count_left : (es : List Named) → paused_count (left es) + cond (is_some (pause_at name (map record_at es))) 1 0 ≡ paused_count es + 0
  count_left [] = refl
  count_left (x ∷ es) = grind (arith, common_steps, ties name x.0, count_left es)

  fewer_left : (es : List Named) → length (left es) ≤ length es
  fewer_left es = let fewer = length_lost (is_named_at name) es (lookup (is_named_at name) es) refl in omega (arith, fewer)

  pub moves_left : (kept last : Tabled EntrySeen) → InOrder (slice_cmp nat_cmp) kept.entries → AreApart kept
      → last.entries ≡ remove_entry (is_named_at name) kept.entries
      → last.tubes.numbers ≡ remove_entry (is_named_at name) kept.tubes.numbers
      → Moves (number_at name kept.tubes.numbers) (pause_at name (map record_at kept.entries)) None kept last
  moves_left kept last order apart e n = record {
    was = λ until. named_ends name kept.tubes.numbers until (map record_at kept.entries) (in_order kept.entries order)
        (told kept apart name);
    is = λ until. rw (e, n) (is_left kept.tubes.numbers kept.entries order (told kept apart name) until);
    others = λ q other. rw (e, n) (renumbered_left kept.tubes.numbers kept.entries order q
        ∙ others_left kept.tubes.numbers q other kept.entries);
    count = rw e (count_left kept.entries);
    fewer = rw e (fewer_left kept.entries);
  }

  fresh : (numbers : List (List ℕ × ℕ)) (ts : List TubeRecord) → has_entry name ts ≡ false
      → ((q : PauseEnd) → is_end_in numbers q (with_record (fresh_tube name) ts) ≡ is_end_in numbers q ts)
      × (count_by is_paused (with_record (fresh_tube name) ts) ≡ count_by is_paused ts)
      × (length (with_record (fresh_tube name) ts) ≡ length ts + 1)
  fresh numbers [] h = (λ q. grind (arith, common_steps), refl, refl)
  fresh numbers (t ∷ ts) h = grind (arith, common_steps, fresh numbers ts)

  pub ends_provided : (n : ℕ) (kept new : Tabled EntrySeen) (ends last : CatalogSeen PauseEnd (Unit {0})) → AreEnds kept ends
      → has_entry name (map record_at kept.entries) ≡ false
      → map record_at new.entries ≡ with_record (fresh_tube name) (map record_at kept.entries)
      → new.tubes.numbers ≡ insert_entry (slice_cmp nat_cmp) kept.tubes.numbers name n
      → last.entries ≡ ends.entries → length kept.entries + 1 ≤ length last.entries + last.spare → AreEnds new last
  ends_provided n kept new ends last h none e numbers same room =
      let parts = fresh (insert_entry (slice_cmp nat_cmp) kept.tubes.numbers name n) (map record_at kept.entries) none in
      grind (arith, length-map, renumbered, number_inserted)

-- A count keeps the pause.
pub count_stays : (name : List ℕ) (what : TubeChange) (kept last : Tabled EntrySeen) (ends : CatalogSeen PauseEnd (Unit {0}))
    → (what ≡ CountPut) ⊎ (what ≡ CountDelete) → last.tubes ≡ kept.tubes
    → last.entries ≡ edited_at name (entry_changed what) kept.entries → AreEnds kept ends → AreEnds last ends
count_stays name what kept last ends counts n e h =
    edit_stays name (entry_changed what) kept last n e (λ t. grind (arith, common_steps)) ends h

-- A pause that is due ends.
module _ (moment : ℕ) (name : List ℕ) where
  one_after : (es : List Named) → with_ended moment (edited_at name (ended moment) es) ≡ with_ended moment es
  one_after [] = refl
  one_after (x ∷ es) = grind (arith, common_steps, one_after es)

  pause_then : (es : List Named) → pause_at name (map record_at (edited_at name (ended moment) es))
      ≡ pause_after_timers moment (pause_at name (map record_at es))
  pause_then [] = refl
  pause_then (x ∷ es) = grind (arith, common_steps, ties name x.0, pause_then es)

-- the end of a pause that is due, and of one that has ended
from_at : (until : ℕ) (number : List ℕ) (p : Option Pause) → ends_at until p ≡ true
    → Some (record { until = until; number = number }) ≡ end_of number p
from_at until number p h = grind arith

to_at : (moment : ℕ) (number : List ℕ) (e : PauseEnd) (p : Option Pause) → Some e ≡ end_of number p → nat_le e.until moment ≡ true
    → None ≡ end_of number (pause_after_timers moment p)
to_at moment number e p is h = grind arith

-- the first end, which is due
module _ (moment : ℕ) (e : PauseEnd) (name : List ℕ) (kept last : Tabled EntrySeen) (ends : CatalogSeen PauseEnd (Unit {0}))
    (h : AreEnds kept ends) (order : InOrder (slice_cmp nat_cmp) kept.entries) (apart : AreApart kept)
    (come : Some e ≡ if_over moment (first_end ends.entries)) (own : e.number ≡ number_at name kept.tubes.numbers)
    (n : last.tubes ≡ kept.tubes)
    (edit : last.entries ≡ edited_at name (ended moment) kept.entries) where
  over_from : Some e ≡ end_of (number_at name kept.tubes.numbers) (pause_at name (map record_at kept.entries))
  over_from =
      let ended = rw (← own) at (named_ends name kept.tubes.numbers e.until (records_in kept) (in_order kept.entries order)
      (told kept apart name)) in
      rw (← own) (from_at e.until e.number _ (sym ended ∙ sym (h.known e) ∙ (one_over moment e ends.entries come).0))

  over_to : None ≡ end_of (number_at name kept.tubes.numbers) (pause_at name (map record_at last.entries))
  over_to = rw (edit, pause_then moment name kept.entries) (to_at moment _ e _ over_from (one_over moment e ends.entries come).1)

  over_moves : Moves (number_at name kept.tubes.numbers) (pause_at name (map record_at kept.entries))
      (pause_at name (map record_at last.entries))
      kept last
  over_moves = edit_moves name (ended moment) kept last n edit order apart

  pub over_fewer : paused_count last.entries < paused_count kept.entries
  over_fewer = grind (arith, common_steps, over_moves.count, over_from, over_to)

  pub over_ends : (mid : CatalogSeen PauseEnd (Unit {0})) → mid.entries ≡ without_end (Some e) ends.entries
      → InOrder end_cmp ends.entries → mid.spare ≡ ends.spare + 1 → AreEnds last mid
  over_ends mid left s spare = ends_moved (number_at name kept.tubes.numbers) _ _ kept last ends mid
      (Some e) None h over_moves over_from over_to
      left (λ _ _. s) spare mid refl (omega arith)

  pub over_entries : with_ended moment last.entries ≡ with_ended moment kept.entries
  over_entries = ap (with_ended moment) edit ∙ one_after moment name kept.entries
