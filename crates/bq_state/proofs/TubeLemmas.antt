-- What is kept of tubes: the entries and the model's records of them.
use Rattle.std.proofs.Common.{Bool, List, None, Option, [], arith, false, if◌then◌else◌, inl, inr, is_some, length, map, not, refl, rules}
use Rattle.std.proofs.{Common.{true, ℕ, ◌&&◌, ◌<◌, ◌∷◌, ◌≡◌}, lemmas.{Bool.{and_left, cases_Bool, or_cases, or_parts}, Grind.common_steps}}
use Rattle.std.{proofs.lemmas.List.Sums.prefix_len-le-length, specs.{Cmp.Lexicographic.bytes_decides, List.AllByRecursion as All}}
use Rattle.std.specs.{List.{list_any, position, prefix_len}, Prelude.{filter, find, unwrap_or}}
use Rattle.bq_job.proofs.{ListLemmas.{all_of_filter, all_of_map, all_weaker, list_any_not, map_all_same, none_pass}, NameOrderLemmas.after}
use Rattle.bq_job.{proofs.NameOrderLemmas.{before_trans, not_before}, specs.machine.{TubeRecord, fresh_tube, is_name_before, with_record}}
use Rattle.bq_job.specs.reading.TubeName.{is_same_name}
use Rattle.bq_state.specs.TubeEntries.{AreInOrder, IsFreshUnlessCounted, counted, has_entry, is_counted}

pub same_name : (a b : List ℕ) → is_same_name a b ≡ true → a ≡ b
same_name a b h = (bytes_decides a b).0 h

pub same_itself : (a : List ℕ) → is_same_name a a ≡ true
same_itself a = (bytes_decides a a).1 refl

-- a name that comes before another one differs from it
pub before_differs : (a b : List ℕ) → is_name_before a b ≡ true → is_same_name a b ≡ false
before_differs a b h = search (rules, cases_Bool, not_before, same_name)

-- a filter and a change that do not affect one another
pub filter_of_map : {A : Type 0} (p : A → Bool) (f : A → A) → ((x : A) → p (f x) ≡ p x) → (xs : List A)
    → filter p (map f xs) ≡ map f (filter p xs)
filter_of_map p f same [] = refl
filter_of_map p f same (x ∷ xs) = grind (arith, filter_of_map p f same xs)

pub filters_swap : {A : Type 0} (p q : A → Bool) (xs : List A) → filter p (filter q xs) ≡ filter q (filter p xs)
filters_swap p q [] = refl
filters_swap p q (x ∷ xs) = grind (arith, common_steps, cases_Bool, filters_swap p q xs)

-- all entries come after this name
abbrev pub AreLater : List ℕ → List TubeRecord → Type 0
AreLater name entries = All (λ u. is_name_before name u.name ≡ true) entries

-- a name differs from all names that come after it
pub none_later : (name : List ℕ) (entries : List TubeRecord) → AreLater name entries → has_entry name entries ≡ false
none_later name entries all = grind (arith, list_any_not, all_weaker, before_differs)

-- a tube without an entry has no record
pub none_found : (name : List ℕ) (entries : List TubeRecord) → has_entry name entries ≡ false
    → find (λ t. is_same_name name t.name) (counted entries) ≡ None
none_found name [] h = refl
none_found name (t ∷ entries) h = grind (arith, common_steps, or_parts, none_found name entries)

-- the record of a tube
abbrev pub found : List ℕ → List TubeRecord → TubeRecord
found name entries = unwrap_or (find (λ t. is_same_name name t.name) (counted entries)) (fresh_tube name)

abbrev pub pauses_there : List ℕ → List TubeRecord → Bool
pauses_there name entries = list_any (λ t. is_same_name name t.name && is_some t.pause) entries

pub no_pause_there : (name : List ℕ) (entries : List TubeRecord) → has_entry name entries ≡ false → pauses_there name entries ≡ false
no_pause_there name entries h = list_any_not _ entries (all_weaker _ _ entries (λ t. and_left _ _) (none_pass _ entries h))

-- a tube is paused if and only if its entry says so
pub paused_is : (name : List ℕ) (entries : List TubeRecord) → AreInOrder entries → All IsFreshUnlessCounted entries
    → is_some (found name entries).pause ≡ pauses_there name entries
paused_is name [] order fresh = refl
paused_is name (t ∷ entries) order fresh = let none = none_later t.name entries order.0 in
    grind (arith, same_name name t.name, none, none_found, no_pause_there, paused_is name entries order.1 fresh.1)

-- the effect of a change on an entry with this name
abbrev pub changed_one : List ℕ → (TubeRecord → TubeRecord) → TubeRecord → TubeRecord
changed_one name f t = if is_same_name name t.name then f t else t

pub unchanged : (name : List ℕ) (f : TubeRecord → TubeRecord) (entries : List TubeRecord) → has_entry name entries ≡ false
    → map (changed_one name f) entries ≡ entries
unchanged name f entries h = map_all_same _ entries (all_weaker _ _ entries (λ t e. rw e refl) (none_pass _ entries h))

-- a record that comes before all others is the first
first_record : (x : TubeRecord) (entries : List TubeRecord) → AreLater x.name entries
    → with_record x (counted entries) ≡ x ∷ counted entries
first_record x [] later = refl
first_record x (t ∷ entries) later = grind (arith, before_differs, first_record x entries later.1)

-- if a later entry has this name, this entry comes before it
comes_before : (name : List ℕ) (t : TubeRecord) (entries : List TubeRecord) → AreLater t.name entries → has_entry name entries ≡ true
    → is_name_before t.name name ≡ true
comes_before name t [] later h = absurd cc
comes_before name t (u ∷ entries) later h = grind (arith, common_steps, or_cases, same_name, comes_before name t entries)

pub found_name : (name : List ℕ) (some : List TubeRecord)
    → (unwrap_or (find (λ t. is_same_name name t.name) some) (fresh_tube name)).name ≡ name
found_name name [] = refl
found_name name (t ∷ some) = grind (arith, common_steps, same_name name t.name, found_name name some)

-- the record of a tube that has an entry, after a change
pub record_changed : (name : List ℕ) (f : TubeRecord → TubeRecord) → ((t : TubeRecord) → is_counted (f t) ≡ true)
    → ((t : TubeRecord) → (f t).name ≡ t.name) → (entries : List TubeRecord) → AreInOrder entries → All IsFreshUnlessCounted entries
    → has_entry name entries ≡ true → with_record (f (found name entries)) (counted entries) ≡ counted (map (changed_one name f) entries)
record_changed name f counts keeps [] order fresh h = absurd cc
record_changed name f counts keeps (t ∷ entries) order fresh h = elim (cases_Bool (is_same_name name t.name)) [
  | inl e ↦ let none = none_later t.name entries order.0 in
      grind (arith, same_name name t.name e, none, first_record (f t) entries (rw (keeps t) order.0), none_found, unchanged)
  | inr e ↦ let rest = record_changed name f counts keeps entries order.1 fresh.1 in
      grind (arith, common_steps, found_name, not_before, comes_before name t entries order.0, rest)
]

-- a change that keeps names
pub same_entries : (f : TubeRecord → TubeRecord) → ((t : TubeRecord) → (f t).name ≡ t.name) → (name : List ℕ) (entries : List TubeRecord)
    → has_entry name (map f entries) ≡ has_entry name entries
same_entries f keeps name [] = refl
same_entries f keeps name (t ∷ entries) = rw (keeps t, same_entries f keeps name entries) refl

pub order_kept : (f : TubeRecord → TubeRecord) → ((t : TubeRecord) → (f t).name ≡ t.name) → (entries : List TubeRecord) → AreInOrder entries
    → AreInOrder (map f entries)
order_kept f keeps [] order = tt
order_kept f keeps (t ∷ entries) order = grind (arith, all_of_map, all_weaker, order_kept f keeps entries)

pub order_filtered : (p : TubeRecord → Bool) (entries : List TubeRecord) → AreInOrder entries → AreInOrder (filter p entries)
order_filtered p [] order = tt
order_filtered p (t ∷ entries) order = grind (arith, all_of_filter, all_weaker, order_filtered p entries order.1)

-- an entry that passes is still there after the filter
pub entry_filtered : (p : TubeRecord → Bool) (name : List ℕ) → ((t : TubeRecord) → name ≡ t.name → p t ≡ true) → (entries : List TubeRecord)
    → has_entry name entries ≡ true → has_entry name (filter p entries) ≡ true
entry_filtered p name passes [] h = absurd cc
entry_filtered p name passes (t ∷ entries) h = grind (arith, common_steps, or_cases, same_name, entry_filtered p name passes entries)

-- a property of all records and of a new one
pub all_inserted : (P : TubeRecord → Type 0) (x : TubeRecord) (ts : List TubeRecord) → P x → All P ts → All P (with_record x ts)
all_inserted P x [] h all = (h, tt)
all_inserted P x (t ∷ ts) h all = grind (arith, common_steps, cases_Bool, all_inserted P x ts h all.1)

pub order_inserted : (x : TubeRecord) (entries : List TubeRecord) → has_entry x.name entries ≡ false → AreInOrder entries
    → AreInOrder (with_record x entries)
order_inserted x [] h order = (tt, tt)
order_inserted x (t ∷ entries) h order = grind (arith, or_parts, all_weaker, before_trans, all_inserted, after, order_inserted x entries)

pub counted_inserted : (x : TubeRecord) → is_counted x ≡ false → (entries : List TubeRecord) → has_entry x.name entries ≡ false
    → counted (with_record x entries) ≡ counted entries
counted_inserted x c [] h = rw c refl
counted_inserted x c (t ∷ entries) h = grind (arith, common_steps, or_parts, counted_inserted x c entries)

-- an inserted record is there, and the records with other names stay
pub has_inserted : (x : TubeRecord) (entries : List TubeRecord) → has_entry x.name (with_record x entries) ≡ true
has_inserted x [] = rw (same_itself x.name) refl
has_inserted x (t ∷ entries) = grind (arith, same_itself, has_inserted x entries)

pub still_has : (x : TubeRecord) (name : List ℕ) (entries : List TubeRecord) → has_entry x.name entries ≡ false
    → has_entry name entries ≡ true → has_entry name (with_record x entries) ≡ true
still_has x name [] none h = absurd cc
still_has x name (t ∷ entries) none h = grind (arith, common_steps, or_parts, still_has x name entries)

-- if some element passes, some are left
pub some_left : {A : Type 0} (p : A → Bool) (xs : List A) → list_any p xs ≡ true → 0 < length (filter p xs)
some_left p [] h = absurd cc
some_left {A = A} p (x ∷ xs) h = grind (arith, common_steps, some_left p xs)

-- The place of the first element that does not pass, or the end, from the result of the search for
-- it.
pub place_told : {A : Type 0} (p : A → Bool) (xs : List A) (o : Option ℕ) (r : ℕ) → r ≡ unwrap_or o (length xs)
    → o ≡ position (λ x. not (p x)) xs → r ≡ prefix_len p xs
place_told p xs o r is found = grind (arith, prefix_len-le-length)
