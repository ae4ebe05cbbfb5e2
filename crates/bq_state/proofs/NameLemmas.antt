-- The names of the tubes that exist.
use Rattle.std.proofs.Common.{List, None, Option, Some, [], ap, arith, codes, false, if◌then◌else◌, map, refl, sym, true, ℕ, ◌++◌, ◌∙◌, ◌∷◌}
use Rattle.std.{proofs.{Common.◌≡◌, lemmas.{Bool.{and_from, cases_Bool}, Grind.common_steps, Map.Views.any-filter_same}}, specs.Borrow.Bor}
use Rattle.std.specs.{List.{AllByRecursion as All, insert, list_any, prefix_len, slice_get}, Map.keys_of, Option.option_map, Prelude.IsOk}
use Rattle.std.specs.Prelude.{Result, filter, find, flat_map, is_ok, unwrap_or}
use Rattle.bq_job.proofs.{ListLemmas.{all_of_map, all_weaker, list_any_not}, NameOrderLemmas.{after, first_of_order, in_order_fold}}
use Rattle.bq_job.proofs.NameOrderLemmas.{in_order_from, listed, not_before, not_same, rest_in_order, stays_fold}
use Rattle.bq_job.specs.{beside.is_in_order, machine.{TubeRecord, default_tube, fresh_tube, in_name_order, is_name_before, name_list}}
use Rattle.bq_job.specs.{machine.{Machine.Machine, seated_tubes, tubes, with_name}, reading.TubeName.is_same_name, texts.Yaml.name_line}
use Rattle.bq_state.proofs.{CountedLemmas.{crowd_there, tally_there}, GoneLemmas.listed_names, NamedLemmas.found_entry}
use Rattle.bq_state.proofs.{PartsLemmas.tube_has_entry, TubeLemmas.{before_differs, none_found, none_later, order_filtered, same_itself}}
use Rattle.bq_state.{proofs.TubeLemmas.same_name, specs.{CoreParts.{entry_in, machine_of}, Names.{is_named, names_of}}}
use Rattle.bq_state.specs.TubeEntries.{AreEntries, AreInOrder, IsFreshUnlessCounted, counted, has_entry, is_tube_of, names_alive}
use Rattle.bq_state.specs.TubesSeen.{EntrySeen, crowd_by, entry_at, fresh_entry, is_alive_at, record_of, records, tally_by}
use Rattle.bq_state.specs.declared.core_parts.CoreParts.{CoreParts}

-- a name differs from all names that come after it,
none_listed : (name : List ℕ) (names : List (List ℕ)) → All (λ n. is_name_before name n ≡ true) names
    → list_any (is_same_name name) names ≡ false
none_listed name names all = list_any_not _ names (all_weaker _ _ names (before_differs name) all)

-- so one before the first of an ordered list is not in it
not_listed : (x y : List ℕ) (ys : List (List ℕ)) → is_name_before x y ≡ true → is_in_order (y ∷ ys) ≡ true
    → list_any (is_same_name x) (y ∷ ys) ≡ false
not_listed x y ys b k = none_listed x (y ∷ ys) (first_of_order x (y ∷ ys) (and_from _ _ b k))

-- Two ordered lists with the same elements have the same first one,
first_is : (x y : List ℕ) (xs ys : List (List ℕ)) → is_in_order (x ∷ xs) ≡ true → is_in_order (y ∷ ys) ≡ true
    → ((name : List ℕ) → list_any (is_same_name name) (x ∷ xs) ≡ list_any (is_same_name name) (y ∷ ys)) → x ≡ y
first_is x y xs ys h k same = grind (arith, same_itself, same x, same y, not_listed, after, same_name)

-- and are equal.
pub same_order : (xs ys : List (List ℕ)) → is_in_order xs ≡ true → is_in_order ys ≡ true
    → ((name : List ℕ) → list_any (is_same_name name) xs ≡ list_any (is_same_name name) ys) → xs ≡ ys
same_order [] [] h k same = refl
same_order [] (y ∷ ys) h k same = grind (arith, same_itself y)
same_order (x ∷ xs) [] h k same = grind (arith, same_itself x)
same_order (x ∷ xs) (y ∷ ys) h k same =
    let is = first_is x y xs ys h k same in
    λ i. is i ∷ same_order xs ys (rest_in_order x xs h) (rest_in_order y ys k) (λ name.
    grind (arith, common_steps, cases_Bool, same_name name x, same name, none_listed, first_of_order)) i

names_in_order : (entries : List TubeRecord) → AreInOrder entries → is_in_order (map (λ t. t.name) entries) ≡ true
names_in_order [] order = refl
names_in_order (t ∷ entries) order =
    in_order_from _ _ (all_of_map (λ n. is_name_before t.name n ≡ true) (λ u. u.name) entries order.0) (names_in_order entries order.1)

any_names : (name : List ℕ) (entries : List TubeRecord) → list_any (is_same_name name) (map (λ t. t.name) entries) ≡ has_entry name entries
any_names name [] = refl
any_names name (t ∷ entries) = rw (any_names name entries) refl

pub tubes_in_order : (m : Machine) → is_in_order (tubes m) ≡ true
tubes_in_order m = in_order_fold (default_tube ∷ map (λ j. j.tube) m.jobs ++ flat_map seated_tubes m.seats) [] refl

-- The tubes are those that have an entry and exist.
pub alive_are_tubes : (m : Machine) (entries : List TubeRecord) → AreEntries m.jobs m.seats entries
    → names_alive m.jobs m.seats entries ≡ tubes m
alive_are_tubes m entries e =
    let is = is_tube_of m.jobs m.seats in
    same_order _ _ (names_in_order _ (order_filtered _ _ e.order)) (tubes_in_order m) (λ name.
    any_names name (filter (λ t. is t.name) entries)
    ∙ any-filter_same (λ t. is_same_name name t.name) (λ t. is t.name) (is name)
    (λ t same. ap is (sym (same_name name t.name same))) entries
    ∙ grind (arith, common_steps, tube_has_entry m.jobs m.seats entries e name) ∙ sym (listed name m))

-- So are those that exist by their counts.
pub names_by_counts : (st : CoreParts) → keys_of (filter is_alive_at st.store.tubes.entries) ≡ tubes (machine_of st)
names_by_counts st = listed_names st.store.jobs.jobs st.seats.items st.store.tubes.entries st.sound.counts
    ∙ alive_are_tubes (machine_of st) _ st.sound.entries

pub alive_in_order : (st : CoreParts) (names : List (Bor (List ℕ)))
    → names_of names ≡ keys_of (filter is_alive_at st.store.tubes.entries) → is_in_order (names_of names) ≡ true
alive_in_order st names are = ap is_in_order (are ∙ names_by_counts st) ∙ tubes_in_order (machine_of st)

-- The record of a tube is its entry.
record_of_entry : (name : List ℕ) (entries : List TubeRecord) → AreInOrder entries → All IsFreshUnlessCounted entries
    → unwrap_or (find (λ t. is_same_name name t.name) (counted entries)) (fresh_tube name) ≡ unwrap_or
    (find (λ t. is_same_name name t.name) entries) (fresh_tube name)
record_of_entry name [] order fresh = refl
record_of_entry name (t ∷ entries) order fresh =
    let rest = record_of_entry name entries order.1 fresh.1 in
    grind (arith, common_steps, cases_Bool, same_name name t.name, none_later t.name entries, none_found name entries)

module _ (st : CoreParts) (name : List ℕ) where
  -- what is known of a tube if it has this entry, or none
  parts : (o : Option EntrySeen) → (unwrap_or (option_map (record_of name) o) (fresh_tube name) ≡ record_of name (unwrap_or o fresh_entry))
      × (tally_by o ≡ (unwrap_or o fresh_entry).tally) × (crowd_by o ≡ (unwrap_or o fresh_entry).crowd)
  parts None = (refl, refl, refl)
  parts (Some t) = (refl, refl, refl)

  -- The entry of a tube, or a fresh one, is what the model says of it.
  pub entry_told : (r : Option EntrySeen) → r ≡ entry_at name st.store.tubes → unwrap_or r fresh_entry ≡ entry_in (machine_of st) name
  entry_told r is =
      let rs = records st.store.tubes in
      let same = record_of_entry name rs st.sound.entries.order st.sound.entries.fresh in
      let found = found_entry name st.store.tubes.entries in
      let tally = tally_there name st.store.tubes st.store.jobs.jobs st.seats.items st.sound.counts st.sound.entries.of_jobs in
      let crowd = crowd_there name st.store.tubes st.store.jobs.jobs st.seats.items st.sound.counts st.sound.entries.of_seats
      st.sound.seated in
      let of = parts r in
      grind arith

-- A name at the place of the first name that does not come before it: it is there already, or it is inserted.
pub placed : (x : Bor (List ℕ)) (names : List (Bor (List ℕ)))
    → (let i = prefix_len (λ other. is_name_before other.now x.now) names in
    names_of (if is_named x.now (slice_get names i) then names else insert names i x)) ≡ with_name (names_of names) x.now
placed x [] = refl
placed x (o ∷ names) = grind (arith, after, not_same o.now x.now (is_same_name x.now o.now) refl, not_before o.now x.now, placed x names)

-- a call that succeeds
pub when_ok : {T E X : Type 0} (r : Result T E) (a b : X) → IsOk r → (if is_ok r then a else b) ≡ a
when_ok r a b h = rw h refl

-- a lent value, or a default
pub lent_or : {A B : Type 0} (f : A → B) (o : Option (Bor A)) (other : Bor A) (x : Option B) → option_map (λ b. f b.now) o ≡ x
    → f (unwrap_or o other).now ≡ unwrap_or x (f other.now)
lent_or f o other x h = grind (arith, common_steps)

-- Names in order are listed unchanged.
pub list_of_order : (names : List (List ℕ)) → name_list (in_name_order names) ≡ name_list names
list_of_order names = ap (λ ns. codes "---\n" ++ flat_map name_line ns) (stays_fold (in_name_order names) [] (in_order_fold names [] refl))
