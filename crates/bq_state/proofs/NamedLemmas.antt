-- The contents of the catalog of tubes: entries found by name, and their numbers.
use Rattle.std.proofs.{Common.{List, None, Option, [], ap, arith, false, is_some, map, refl, sym, ℕ, ◌&&◌, ◌∷◌, ◌≡◌}, lemmas.Bool.or_parts}
use Rattle.std.{proofs.lemmas.{Grind.common_steps, Map.Made.is_some-lookup}, specs.{BTreeMap.insert_entry, Cmp.Lexicographic.slice_cmp}}
use Rattle.std.specs.{Cmp.Lexicographic.texts_ties, List.{Sorted.IsStrictlySortedBy, list_any}, Map.{keys_of, lookup}, Option.option_map}
use Rattle.std.specs.{Ordering.{is_lt, nat_cmp}, Prelude.find}
use Rattle.bq_index.specs.Order.{InOrder}
use Rattle.bq_job.{proofs.ListLemmas.{all_before_map, all_of_map, all_weaker}, specs.machine.{TubeRecord, fresh_tube, with_record}}
use Rattle.bq_job.specs.reading.TubeName.{is_same_name}
use Rattle.bq_jobs.specs.{JobsSeen.JobsSeen, Names.number_in, Table.Tabled, declared.numbered_jobs.JobMove.JobMove}
use Rattle.bq_state.{proofs.TubeLemmas.{changed_one, no_pause_there, none_later, same_name}, specs.Store.{StoreSeen, store_seen}}
use Rattle.bq_state.specs.{TubeEntries.{AreInOrder, has_entry, tube_changed}, TubesSeen.{EntrySeen, Named}}
use Rattle.bq_state.specs.TubesSeen.{TubesSeen, changed_named, edited_at, entry_changed, entry_moved, entry_recounted, fresh_entry}
use Rattle.bq_state.specs.TubesSeen.{is_named_at, is_paused_by, record_at, record_of, records, with_entry}
use Rattle.bq_state.specs.declared.tubes.entry.{AddOrRemove.AddOrRemove, Roles.Roles, TubeChange.TubeChange}

-- keys compare equal exactly if the names are the same
pub ties : (a b : List ℕ) → is_named_at a b ≡ is_same_name a b
ties a b = sym (texts_ties a b)

-- The names of entries are in order.
pub in_order : (es : List Named) → InOrder (slice_cmp nat_cmp) es → AreInOrder (map record_at es)
unfolding IsStrictlySortedBy
in_order [] s = tt
in_order (x ∷ es) s = (all_of_map _ _ es (all_weaker _ _ es (λ y. ap is_lt) (all_before_map _ _ es s.0)), in_order es s.1)

module _ (name : List ℕ) where
  -- A lookup finds the entry of the name,
  pub found_entry : (es : List Named) → option_map (record_of name) (lookup (is_named_at name) es)
      ≡ find (λ t. is_same_name name t.name) (map record_at es)
  found_entry [] = refl
  found_entry (x ∷ es) = grind (arith, ties name x.0, same_name name x.0, found_entry es)

  pub found_any : (es : List Named) → is_some (lookup (is_named_at name) es) ≡ has_entry name (map record_at es)
  found_any [] = refl
  found_any (x ∷ es) = grind (arith, ties, found_any es)

  -- which decides whether the tube is paused.
  pub found_pause : (es : List Named) → AreInOrder (map record_at es)
      → is_paused_by (lookup (is_named_at name) es) ≡ list_any (λ t. is_same_name name t.name && is_some t.pause) (map record_at es)
  found_pause [] order = refl
  found_pause (x ∷ es) order = let none = none_later x.0 (map record_at es) order.0 in
      grind (arith, ties name x.0, same_name name x.0, none, no_pause_there, found_pause es order.1)

  -- A new entry is where its name belongs.
  pub records_with : (es : List Named) → map record_at (insert_entry (slice_cmp nat_cmp) es name fresh_entry)
      ≡ with_record (fresh_tube name) (map record_at es)
  records_with [] = refl
  records_with (x ∷ es) = grind (arith, ties name x.0, same_name name x.0, records_with es)

  module _ (f : EntrySeen → EntrySeen) where
    none_changed : (es : List Named) → has_entry name (map record_at es) ≡ false → map (changed_named name f) es ≡ es
    none_changed [] h = refl
    none_changed (x ∷ es) h = grind (arith, or_parts, none_changed es)

    -- An edit changes the entry of this name.
    pub edited_is : (es : List Named) → AreInOrder (map record_at es) → edited_at name f es ≡ map (changed_named name f) es
    edited_is [] order = refl
    edited_is (x ∷ es) order = let none = none_later x.0 (map record_at es) order.0 in
        grind (arith, ties name x.0, same_name name x.0, none, none_changed, edited_is es order.1)

    pub store_edited : (rows : JobsSeen) (kept last : Tabled EntrySeen) (k : StoreSeen) → last.entries ≡ edited_at name f kept.entries
        → last.tubes ≡ kept.tubes → InOrder (slice_cmp nat_cmp) kept.entries → store_seen rows kept ≡ k
        → store_seen rows last ≡ record k { tubes = with_entry name f k.tubes }
    store_edited rows kept last k is same order seen = grind (arith, edited_is, in_order)

    -- Its record changes as the entry does, or not at all.
    pub records_changed : (g : TubeRecord → TubeRecord) → ((n : List ℕ) (t : EntrySeen) → record_of n (f t) ≡ g (record_of n t))
        → (es : List Named) → map record_at (map (changed_named name f) es) ≡ map (changed_one name g) (map record_at es)
    records_changed g made [] = refl
    records_changed g made (x ∷ es) = grind (arith, made x.0 x.1, records_changed g made es)

    pub records_same : ((n : List ℕ) (t : EntrySeen) → record_of n (f t) ≡ record_of n t) → (es : List Named)
        → map record_at (map (changed_named name f) es) ≡ map record_at es
    records_same made [] = refl
    records_same made (x ∷ es) = grind (arith, made x.0 x.1, records_same made es)

-- A job that is counted in another state, and a client that is counted or not, change no record.
pub records_moved : (m : JobMove) (k : TubesSeen) → records (with_entry m.tube (entry_moved m) k) ≡ records k
records_moved m k = records_same m.tube (entry_moved m) (λ n t. refl) k.entries

pub records_counting : (name : List ℕ) (how : AddOrRemove) (roles : Roles) (k : TubesSeen)
    → records (with_entry name (entry_recounted how roles) k) ≡ records k
records_counting name how roles k = records_same name (entry_recounted how roles) (λ n t. refl) k.entries

-- An event at a tube changes its record.
pub change_kept : (what : TubeChange) (name : List ℕ) (t : EntrySeen)
    → record_of name (entry_changed what t) ≡ tube_changed what (record_of name t)
change_kept what name t = grind (arith, common_steps)

-- A tube has a number exactly if it has an entry.
pub have_numbers : (es : List Named) (numbers : List (List ℕ × ℕ)) → keys_of es ≡ keys_of numbers → (name : List ℕ)
    → is_some (lookup (is_named_at name) numbers) ≡ has_entry name (map record_at es)
have_numbers es numbers same name = grind (arith, is_some-lookup, found_any name es)

-- A number was found exactly if there is one.
pub number_there : (r : Option (List ℕ)) (o : Option ℕ) → option_map number_in r ≡ o → is_some r ≡ is_some o
number_there r o h1 = grind (arith, common_steps)

-- A tube that has no entry is not found.
pub none_found : (name : List ℕ) (es : List Named) → has_entry name (map record_at es) ≡ false → lookup (is_named_at name) es ≡ None
none_found name es none = grind (arith, common_steps, found_any name es)
