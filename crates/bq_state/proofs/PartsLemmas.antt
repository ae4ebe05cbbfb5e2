-- What changes of the state leave unchanged.
use Rattle.std.proofs.Common.{Bool, List, None, Some, [], ap, arith, if◌then◌else◌, inl, inr, length, map, refl, rules, set, slice_get}
use Rattle.std.proofs.{Common.{subst, suc, sym, true, zero, ℕ, ◌++◌, ◌+◌, ◌==◌, ◌^◌, ◌||◌, ◌∙◌, ◌∷◌, ◌≡◌, ◌≤◌}, lemmas.Bool.and_parts}
use Rattle.std.proofs.lemmas.{Bool.{cases_Bool, eq-eqb, ne_eqb, or_cases}, Grind.common_steps, List.length-map}
use Rattle.std.proofs.lemmas.{List.Elements.{All-from_recursion, All-set, recursion_from_All}, Option.get_or_from_slice_get}
use Rattle.std.{proofs.lemmas.Option.slice_get_within, specs.{List.{AllByRecursion as All, list_any}, Prelude.{filter, find, nat_le}}}
use Rattle.bq_job.proofs.{KeptLemmas.numbers_above, LawfulLemmas.length_numbers, ListLemmas.{all_always, all_at, all_from_members}}
use Rattle.bq_job.proofs.ListLemmas.{all_of_filter, all_of_map, all_weaker, found_passes, keys_of_map, map_all_same}
use Rattle.bq_job.specs.{beside.AreIdsWithin, declared.job.Job.Job, machine.{SeatRecord, TubeRecord, default_tube, empty_seat, fresh_tube}}
use Rattle.bq_job.specs.machine.{greatest, job_with, numbers, seat_with, tube_after_timers, watches, watching, with_record}
use Rattle.bq_job.specs.reading.TubeName.{is_same_name}
use Rattle.bq_jobs.specs.JobsSeen.{with_added}
use Rattle.bq_state.proofs.TubeLemmas.{all_inserted, counted_inserted, entry_filtered, found, order_filtered, order_inserted, order_kept}
use Rattle.bq_state.{proofs.TubeLemmas.{record_changed, same_entries, same_itself, same_name, still_has}, specs.JobChanges.changed}
use Rattle.bq_state.specs.{SeatChanges.{AreNumbered, has_tube_of, seat_changed, seat_changed_at}, Soundness.Soundness, Store.StoreSeen}
use Rattle.bq_state.specs.TubeEntries.{AreEntries, HasTubes, IsFreshUnlessCounted, counted, has_entry, is_counted, is_tube_of, provided}
use Rattle.bq_state.specs.{TubeEntries.{tube_changed, tube_changed_at}, TubesSeen.records, declared.core_parts.CoreParts.CoreParts}
use Rattle.bq_state.specs.declared.{job_store.JobChange.JobChange, seats.SeatChange.SeatChange, tubes.entry.TubeChange.TubeChange}

-- a property of all elements is kept if each change keeps it
pub all_kept : {A : Type 0} (P : A → Type 0) (f : A → A) → ((x : A) → P x → P (f x)) → (xs : List A) → All P xs → All P (map f xs)
all_kept P f keeps xs all = all_of_map P f xs (all_weaker P (λ x. P (f x)) xs keeps all)

-- and a sublist has it
pub all_filtered : {A : Type 0} (P : A → Type 0) (p : A → Bool) (xs : List A) → All P xs → All P (filter p xs)
all_filtered P p xs all = all_weaker (λ x. P x × (p x ≡ true)) P (filter p xs) (λ x h. h.0) (all_of_filter P p xs all)

-- a change does not affect the id
pub id_kept : (change : JobChange) (j : Job) → (changed change j).id ≡ j.id
id_kept change j = grind (arith)

pub all_added : (P : Job → Type 0) (j : Job) (jobs : List Job) → P j → All P jobs → All P (with_added j jobs)
all_added P j [] h all = (h, tt)
all_added P j (k ∷ jobs) h all = grind (arith, all_added P j jobs h all.1)

ids_further : (low next further : ℕ) (jobs : List Job) → next ≤ further → AreIdsWithin low jobs next → AreIdsWithin low jobs further
ids_further low next further [] le h = omega arith
ids_further low next further (k ∷ jobs) le h = (h.0, ids_further (suc k.id) next further jobs le h.1)

-- there are fewer jobs than ids
as_many_ids : (low next : ℕ) (jobs : List Job) → AreIdsWithin low jobs next → length jobs + low ≤ next
as_many_ids low next [] h = omega arith
as_many_ids low next (k ∷ jobs) h = omega (arith, h.0, as_many_ids (suc k.id) next jobs h.1)

-- there are fewer jobs than the highest count, whatever the next id is
pub few_jobs : (next : ℕ) (jobs : List Job) → AreIdsWithin 1 jobs next → AreIdsWithin 0 jobs (2 ^ 64) → length jobs ≤ greatest
few_jobs next [] given h = omega arith
few_jobs next (k ∷ jobs) given h = omega (arith, as_many_ids 1 (2 ^ 64) (k ∷ jobs) (given.0, h.1))

-- if none passes, none is changed
pub none_passed : {A : Type 0} (p : A → Bool) (f : A → A) (xs : List A) → find p xs ≡ None → map (λ x. if p x then f x else x) xs ≡ xs
none_passed p f [] h = refl
none_passed p f (x ∷ xs) h = grind (arith, common_steps, cases_Bool, none_passed p f xs)

-- If jobs were only searched, the state still satisfies its invariants.
pub compared_sound : (st : CoreParts) (store : StoreSeen)
    → store ≡ record st.store { jobs = record st.store.jobs { comparisons = store.jobs.comparisons } }
    → Soundness store.jobs.jobs st.seats.items store.tubes st.waiting st.known st.next_id st.draining
compared_sound st store same = grind (arith, common_steps)

-- It also does if an id was given out.
pub sound_given : (st : CoreParts) → Soundness st.store.jobs.jobs st.seats.items st.store.tubes st.waiting st.known (st.next_id + 1)
    (nat_le 18446744073709551614 st.next_id)
sound_given st = grind (arith, ids_further)

-- after a change of a seat, its tubes have entries
pub entries_of_seat : (number : ℕ) (what : SeatChange) (jobs : List Job) (seats : List SeatRecord) (entries : List TubeRecord)
    → has_tube_of what entries ≡ true → AreEntries jobs seats entries → AreEntries jobs (map (seat_changed_at number what) seats) entries
entries_of_seat number what jobs seats entries h e = grind (arith, all_kept)

-- changes keep the numbers of seats
pub number_kept : (what : SeatChange) (s : SeatRecord) → (seat_changed what s).number ≡ s.number
number_kept what s = grind (arith, common_steps)

pub numbered_after : (number : ℕ) (what : SeatChange) (seats : List SeatRecord) → AreNumbered seats
    → AreNumbered (map (seat_changed_at number what) seats)
numbered_after number what seats h = grind (arith, keys_of_map, all_always, length-map)

-- changes of tubes
pub tube_name_kept : (what : TubeChange) (t : TubeRecord) → (tube_changed what t).name ≡ t.name
tube_name_kept what t = grind (arith, common_steps)

pub tube_counts : (what : TubeChange) (t : TubeRecord) → is_counted (tube_changed what t) ≡ true
tube_counts what t = grind (arith)

pub name_kept_at : (name : List ℕ) (what : TubeChange) (t : TubeRecord) → (tube_changed_at name what t).name ≡ t.name
name_kept_at name what t = grind (arith)

pub entries_of_tube : (name : List ℕ) (what : TubeChange) (jobs : List Job) (seats : List SeatRecord) (entries : List TubeRecord)
    → AreEntries jobs seats entries → AreEntries jobs seats (map (tube_changed_at name what) entries)
entries_of_tube name what jobs seats entries e = search (rules, all_kept, all_weaker, order_kept, name_kept_at, same_entries)

pub counted_provided : (name : List ℕ) (entries : List TubeRecord) → counted (provided name entries) ≡ counted entries
counted_provided name entries = grind (arith, counted_inserted)

-- What follows from each of two tests follows if either passes,
from_either : {a b c : Bool} → (a ≡ true → c ≡ true) → (b ≡ true → c ≡ true) → (a || b) ≡ true → c ≡ true
from_either {a = a} {b = b} f g h = elim (or_cases a b h) [ inl e ↦ f e | inr e ↦ g e ]

-- and what follows from each element that passes follows if one does.
from_one : {A : Type 0} (P : A → Type 0) (p : A → Bool) {c : Bool} → ((x : A) → P x → p x ≡ true → c ≡ true) → (xs : List A) → All P xs
    → list_any p xs ≡ true → c ≡ true
from_one P p gives [] all h = absurd cc
from_one P p gives (x ∷ xs) all h = from_either (gives x all.0) (from_one P p gives xs all.1) h

-- a tube that exists has an entry
pub tube_has_entry : (jobs : List Job) (seats : List SeatRecord) (entries : List TubeRecord) → AreEntries jobs seats entries
    → (name : List ℕ) → is_tube_of jobs seats name ≡ true → has_entry name entries ≡ true
tube_has_entry jobs seats entries e name =
    let named = λ (other : List ℕ) (has : has_entry other entries ≡ true) (same : is_same_name name other ≡ true).
    subst (λ n. has_entry n entries ≡ true) (sym (same_name name other same)) has in
    from_either (from_either (named default_tube e.of_default) (from_one _ _ (λ j. named j.tube) jobs e.of_jobs)) (from_one _ _ (λ s has h.
    let parts = and_parts s.connected (is_same_name name s.used || watches name s) h in
    from_either (named s.used (has.used parts.0)) (from_one _ _ named s.watched (has.watched parts.0)) parts.1) seats e.of_seats)

-- at the start
pub first_entries : (n : ℕ) → AreEntries [] (map empty_seat (numbers 0 n)) (fresh_tube default_tube ∷ [])
first_entries n = grind (arith, all_of_map, all_always)

numbers_read : (ns : List ℕ) → map (λ s. s.number) (map empty_seat ns) ≡ ns
numbers_read [] = refl
numbers_read (n ∷ ns) = ap (λ ms. n ∷ ms) (numbers_read ns)

pub first_numbered : (n : ℕ) → AreNumbered (map empty_seat (numbers 0 n))
first_numbered n = grind (arith, numbers_read, length-map, length_numbers)

-- where seats are numbered in order, the seat at a place is the one with its number
pub place_from : (low k i : ℕ) (seats : List SeatRecord) → k ≡ low + i → map (λ s. s.number) seats ≡ numbers low (length seats)
    → slice_get seats i ≡ seat_with k seats
place_from low k i [] is h = refl
place_from low k zero (s ∷ seats) is h = grind (arith, common_steps, eq-eqb)
place_from low k (suc i) (s ∷ seats) is h = grind (arith, common_steps, ne_eqb, place_from (suc low) k i seats)

module _ (seats : List SeatRecord) (i : ℕ) (s : SeatRecord) (h : AreNumbered seats) where
  pub seat_there : seat_with i seats ≡ Some s → slice_get seats i ≡ Some s
  seat_there found = place_from 0 i i seats (omega arith) h ∙ found

  pub seat_read : slice_get seats i ≡ Some s → seat_with i seats ≡ Some s
  seat_read found = sym (place_from 0 i i seats (omega arith) h) ∙ found

-- and a change of this seat alone is a change at that place
set_at_place : (low k : ℕ) (seats : List SeatRecord) (i : ℕ) (s : SeatRecord) (f : SeatRecord → SeatRecord) → k ≡ low + i
    → map (λ s. s.number) seats ≡ numbers low (length seats) → slice_get seats i ≡ Some s
    → map (λ s. if s.number == k then f s else s) seats ≡ set seats i (f s)
set_at_place low k [] i s f is h found = absurd cc
set_at_place low k (t ∷ seats) zero s f is h found =
    let rest = map_all_same (λ t. if t.number == k then f t else t) seats
    (all_weaker _ _ _ (λ t up. grind (arith, common_steps, ne_eqb)) (numbers_above (suc low) (length seats) seats (cc))) in
    grind (arith, common_steps, eq-eqb)
set_at_place low k (t ∷ seats) (suc i) s f is h found = grind (arith, common_steps, ne_eqb, set_at_place (suc low) k seats i s f)

pub changed_there : (seats : List SeatRecord) (i : ℕ) (s : SeatRecord) (f : SeatRecord → SeatRecord) → AreNumbered seats
    → slice_get seats i ≡ Some s → map (λ s. if s.number == i then f s else s) seats ≡ set seats i (f s)
changed_there seats i s f h found = set_at_place 0 i seats i s f (omega arith) h found

pub watching_numbered : (names : List (List ℕ)) (i : ℕ) (s : SeatRecord) (seats : List SeatRecord) → slice_get seats i ≡ Some s
    → AreNumbered seats → AreNumbered (set seats i (watching names s))
watching_numbered names i s seats found h =
    grind (arith, common_steps, changed_there seats i s (watching names) h found, keys_of_map, all_always, length-map)

pub all_read : {A : Type 0} (P : A → Type 0) (xs : List A) (i : ℕ) (x : A) → All P xs → slice_get xs i ≡ Some x → P x
all_read P xs i x all found = all_at P xs x all (i, slice_get_within xs i x found, get_or_from_slice_get xs i x x found)

pub all_set : {A : Type 0} (P : A → Type 0) (xs : List A) (i : ℕ) (y : A) → All P xs → P y → All P (set xs i y)
all_set P xs i y all h = recursion_from_All P (set xs i y) (All-set P xs i y h (All-from_recursion P xs all))

-- Tubes still have entries after jobs are removed,
pub entries_of_fewer : (p : Job → Bool) (jobs : List Job) (seats : List SeatRecord) (entries : List TubeRecord)
    → AreEntries jobs seats entries
    → AreEntries (filter p jobs) seats entries
entries_of_fewer p jobs seats entries e = grind (arith, all_filtered)

-- and after one is added.
pub entries_of_added : (j : Job) (jobs : List Job) (seats : List SeatRecord) (entries : List TubeRecord) → has_entry j.tube entries ≡ true
    → AreEntries jobs seats entries → AreEntries (with_added j jobs) seats entries
entries_of_added j jobs seats entries h e = grind (arith, all_added)

-- So do those of a state
module _ (st : CoreParts) where
  -- after a tube gets an entry,
  pub entries_provided : (name : List ℕ) → AreEntries st.store.jobs.jobs st.seats.items (provided name (records st.store.tubes))
  entries_provided name = grind (arith, all_weaker, order_inserted, all_inserted IsFreshUnlessCounted (fresh_tube name), still_has)

  -- after timers fire,
  pub entries_of_timers : AreEntries st.store.jobs.jobs st.seats.items (map (tube_after_timers st.moment) (records st.store.tubes))
  entries_of_timers = grind (arith, all_weaker, order_kept, all_kept, same_entries)

  -- after the entries of tubes that no longer exist are dropped,
  pub entries_forgotten : AreEntries st.store.jobs.jobs st.seats.items
      (filter (λ t. is_tube_of st.store.jobs.jobs st.seats.items t.name) (records st.store.tubes))
  entries_forgotten =
      let is = is_tube_of st.store.jobs.jobs st.seats.items in
      let still = λ (name : List ℕ) (there : is name ≡ true). entry_filtered (λ t. is t.name) name (λ t same. ap is (sym same) ∙ there) _
      (tube_has_entry _ _ _ st.sound.entries name there) in
      record {
        order = order_filtered _ _ st.sound.entries.order;
        fresh = all_filtered _ _ _ st.sound.entries.fresh;
        of_default = still default_tube refl;
        of_jobs = all_from_members _ _ (λ j here. still j.tube (grind (arith, common_steps, same_itself)));
        of_seats = all_from_members _ _ (λ s here. record {
          used = λ c. still s.used (grind (arith, common_steps, same_itself));
          watched = λ c. all_from_members _ _ (λ name there. still name (grind (arith, common_steps, same_itself)));
        });
      }

  -- and after the client at a seat watches one more tube, or fewer.
  pub watching_more : (name : List ℕ) (i : ℕ) (s : SeatRecord) → slice_get st.seats.items i ≡ Some s
      → has_entry name (records st.store.tubes) ≡ true
      → AreEntries st.store.jobs.jobs (set st.seats.items i (watching (s.watched ++ name ∷ []) s)) (records st.store.tubes)
  watching_more name i s found h = grind (arith, common_steps, all_read)

  pub watching_fewer : (p : List ℕ → Bool) (i : ℕ) (s : SeatRecord) → slice_get st.seats.items i ≡ Some s
      → AreEntries st.store.jobs.jobs (set st.seats.items i (watching (filter p s.watched) s)) (records st.store.tubes)
  watching_fewer p i s here =
      let has = all_read (HasTubes (records st.store.tubes)) st.seats.items i s st.sound.entries.of_seats here in
      let fewer = all_filtered (λ name. has_entry name (records st.store.tubes) ≡ true) p s.watched in
      grind (arith, common_steps, has, fewer)

  -- A job has an entry.
  pub has_of_job : (id : ℕ) (j : Job) → job_with id st.store.jobs.jobs ≡ Some j → has_entry j.tube (records st.store.tubes) ≡ true
  has_of_job id j found = grind (arith, common_steps, found_passes)

  -- The record of a tube changes as its entry does.
  pub recorded : (name : List ℕ) (what : TubeChange) → has_entry name (records st.store.tubes) ≡ true
      → with_record (tube_changed what (found name (records st.store.tubes))) (counted (records st.store.tubes))
      ≡ counted (map (tube_changed_at name what) (records st.store.tubes))
  recorded name what there = grind (arith, record_changed, tube_counts, tube_name_kept)
