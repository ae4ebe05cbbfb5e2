-- What every part of a step keeps, and the changes of jobs and of seats that keep it.
use Rattle.std.proofs.Common.{ℕ, zero, suc, ◌≡◌, ◌≤◌, ◌+◌, Bool, true, false, ◌&&◌, ◌||◌, not, cond, List}
use Rattle.std.proofs.Common.{[], ◌∷◌, ◌++◌, map, arith, refl, ◌∙◌, inl, inr, Some, rules}
use Rattle.std.proofs.lemmas.Bool.{cases_Bool, or_left, or_right}
use Rattle.std.proofs.lemmas.Bool.{or_cases, cond_both, eqb-true, eqb-false}
use Rattle.std.proofs.lemmas.Grind.{common_steps}
use Rattle.std.specs.{List.{AllByRecursion as All, list_any}, Prelude.{◌==◌, filter, find}}
use Rattle.bq_job.specs.machine.{Machine.Machine, SeatRecord, empty_seat, given_back, is_held_by, is_reserved, is_waiting}
use Rattle.bq_job.specs.{beside.{AreIdsWithin, IsLawful}, machine.{last_id, numbers}, Types.{Job, JobState}}
use Rattle.bq_job.proofs.ListLemmas.{all_always, all_both, all_of_filter, all_of_map}
use Rattle.bq_job.proofs.ListLemmas.{all_pass, all_weaker, keys_of_map, list_any_of_map}

-- The job's holder is connected.
abbrev pub has_holder : List SeatRecord → Job → Bool
has_holder seats j = not (is_reserved j.state) || list_any (λ s. s.connected && is_held_by s.number j) seats

-- A waiting client is connected.
abbrev pub is_open_wait : SeatRecord → Bool
is_open_wait s = not (is_waiting s) || s.connected

pub record Kept (places : ℕ) (jobs : List Job) (seats : List SeatRecord) (next : ℕ) (draining : Bool) : Type 0 where
  pub ids : AreIdsWithin 1 jobs next
  pub accepts : draining ≡ false → next ≤ last_id
  pub fits : next ≤ suc last_id
  pub holders : All (λ j. has_holder seats j ≡ true) jobs
  pub seated : map (λ s. s.number) seats ≡ numbers 0 places
  pub waits : All (λ s. is_open_wait s ≡ true) seats

-- the same of a model
abbrev pub Keeps : Machine → Type 0
Keeps m = Kept m.settings.seats m.jobs m.seats m.next_id m.draining

pub kept_of_lawful : (m : Machine) → IsLawful m → Keeps m
kept_of_lawful m h = search (rules, all_pass)

-- increasing ids through changes of the list
pub ids_of_map : (f : Job → Job) (low next : ℕ) (jobs : List Job) → ((j : Job) → (f j).id ≡ j.id) → AreIdsWithin low jobs next
    → AreIdsWithin low (map f jobs) next
ids_of_map f low next [] same h = h
ids_of_map f low next (j ∷ jobs) same h = grind (arith, common_steps, ids_of_map f (suc j.id) next jobs same h.1)

pub ids_from_below : (low high next : ℕ) (jobs : List Job) → low ≤ high → AreIdsWithin high jobs next → AreIdsWithin low jobs next
ids_from_below low high next [] less h = omega arith
ids_from_below low high next (j ∷ jobs) less h = (omega (arith, h.0), h.1)

pub ids_of_filter : (p : Job → Bool) (low next : ℕ) (jobs : List Job) → AreIdsWithin low jobs next → AreIdsWithin low (filter p jobs) next
ids_of_filter p low next [] h = h
ids_of_filter p low next (j ∷ jobs) h = grind (arith, ids_from_below, ids_of_filter p (suc j.id) next jobs h.1)

pub ids_of_push : (low next : ℕ) (jobs : List Job) (j : Job) → j.id ≡ next → AreIdsWithin low jobs next
    → AreIdsWithin low (jobs ++ j ∷ []) (next + 1)
ids_of_push low next [] j e h = (omega arith, omega arith)
ids_of_push low next (k ∷ jobs) j e h = (h.0, ids_of_push (suc k.id) next jobs j e h.1)

-- what a change of a seat may do
pub record IsMild (s t : SeatRecord) : Type 0 where
  pub number : t.number ≡ s.number
  pub stays : s.connected ≡ true → t.connected ≡ true
  pub waits : is_open_wait s ≡ true → is_open_wait t ≡ true

-- A change of seats after which each holder is still connected.
held_through : (f : SeatRecord → SeatRecord) (seats : List SeatRecord) (j : Job)
    → All (λ s. (s.connected && is_held_by s.number j) ≡ true → ((f s).connected && is_held_by (f s).number j) ≡ true) seats
    → has_holder seats j ≡ true → has_holder (map f seats) j ≡ true
held_through f seats j stays h =
    elim (or_cases (not (is_reserved j.state)) (list_any (λ s. s.connected && is_held_by s.number j) seats) h) [
      | inl e ↦ or_left (not (is_reserved j.state)) _ e
      | inr e ↦ or_right (not (is_reserved j.state)) _ (list_any_of_map _ _ f seats stays e)
    ]

-- a job when the client at this seat disconnects
held_elsewhere : (seat : ℕ) (seats : List SeatRecord) (j : Job) → is_held_by seat j ≡ false → has_holder seats j ≡ true
    → has_holder (map (λ s. cond (s.number == seat) (empty_seat s.number) s) seats) j ≡ true
held_elsewhere seat seats j e = grind (arith, held_through, all_always)

-- what keeps the invariant
module _ {places next : ℕ} {jobs : List Job} {seats : List SeatRecord} {draining : Bool} (h : Kept places jobs seats next draining) where
  -- Jobs change, each keeps its id, and every holder is connected.
  pub kept_of_jobs : (f : Job → Job) → ((j : Job) → (f j).id ≡ j.id)
      → ((j : Job) → has_holder seats j ≡ true → has_holder seats (f j) ≡ true) → Kept places (map f jobs) seats next draining
  kept_of_jobs f same held = search (ids_of_map, all_of_map, all_weaker)

  -- The job of one id changes.
  pub kept_of_job : (id : ℕ) (f : Job → Job) → ((j : Job) → (f j).id ≡ j.id) → ((j : Job) → has_holder seats (f j) ≡ true)
      → Kept places (map (λ j. cond (j.id == id) (f j) j) jobs) seats next draining
  kept_of_job id f same held =
      kept_of_jobs (λ j. cond (j.id == id) (f j) j) (λ j. cond_both (j.id == id) (f j) j (λ k. k.id ≡ j.id) (λ e. same j) (λ e. refl))
      (λ j i. cond_both (j.id == id) (f j) j (λ k. has_holder seats k ≡ true) (λ e. held j) (λ e. i))

  -- Jobs are removed.
  pub kept_of_filter : (p : Job → Bool) → Kept places (filter p jobs) seats next draining
  kept_of_filter p = grind (arith, ids_of_filter, all_weaker, all_of_filter)

  -- Seats change mildly.
  pub kept_of_seats : (f : SeatRecord → SeatRecord) → All (λ s. IsMild s (f s)) seats → Kept places jobs (map f seats) next draining
  kept_of_seats f mild = record {
    ids = h.ids;
    accepts = h.accepts;
    fits = h.fits;
    holders = all_weaker _ _ jobs (λ j. held_through f seats j (grind (arith, all_weaker, mild))) h.holders;
    seated = keys_of_map (λ s. s.number) f seats (all_weaker _ _ seats (λ s c. c.number) mild) ∙ h.seated;
    waits = all_of_map _ f seats (all_weaker _ _ seats (λ s c. c.0.waits c.1) (all_both _ _ seats mild h.waits));
  }

  -- The seat of one number changes.
  pub kept_of_seat : (number : ℕ) (f : SeatRecord → SeatRecord) → All (λ s. s.number ≡ number → IsMild s (f s)) seats
      → Kept places jobs (map (λ s. cond (s.number == number) (f s) s) seats) next draining
  kept_of_seat number f mild =
      kept_of_seats (λ s. cond (s.number == number) (f s) s) (all_weaker _ _ seats
      (λ s c. cond_both (s.number == number) (f s) s (IsMild s) (λ e. c (eqb-true s.number number e))
      (λ e. record { number = refl; stays = λ c. c; waits = λ w. w })) mild)

  -- A client disconnects: no client holds its jobs, and its seat is empty.
  pub kept_of_close : (state : JobState) (seat : ℕ) → is_reserved state ≡ false
      → Kept places (map (given_back state seat) jobs) (map (λ s. cond (s.number == seat) (empty_seat s.number) s) seats) next draining
  kept_of_close state seat free = grind
      (arith, common_steps, ids_of_map, cond_both, all_of_map, all_weaker, held_elsewhere, keys_of_map, all_always)

  -- Draining begins.
  pub kept_of_drain : Kept places jobs seats next true
  kept_of_drain = record { ids = h.ids; accepts = λ e. absurd cc; fits = h.fits; holders = h.holders; seated = h.seated; waits = h.waits }

-- the numbers from `low` on are at least `low`
pub numbers_above : (low n : ℕ) (seats : List SeatRecord) → map (λ s. s.number) seats ≡ numbers low n → All (λ s. low ≤ s.number) seats
numbers_above low n [] e = tt
numbers_above low zero (s ∷ seats) e = absurd cc
numbers_above low (suc n) (s ∷ seats) e = grind (arith, all_weaker, numbers_above (suc low) n seats)

-- The seat that is found is the only one of its number.
pub only_seat : (low n number : ℕ) (seats : List SeatRecord) (s : SeatRecord) → map (λ s. s.number) seats ≡ numbers low n
    → find (λ s. s.number == number) seats ≡ Some s → All (λ t. t.number ≡ number → t ≡ s) seats
only_seat low n number [] s e f = tt
only_seat low zero number (t ∷ seats) s e f = absurd cc
only_seat low (suc n) number (t ∷ seats) s e f =
    let here : t.number ≡ low = (cc) in
    let rest : map (λ s. s.number) seats ≡ numbers (suc low) n = (cc) in
    elim (cases_Bool (t.number == number)) [
      | inl b ↦
          let found : Some t ≡ Some s = rw b at f in
          let is : t.number ≡ number = eqb-true t.number number b in (
            λ i. cc,
            all_weaker _ _ seats (λ u h i. absurd (omega arith)) (numbers_above (suc low) n seats rest),
          )
      | inr b ↦ (λ i. absurd (eqb-false t.number number b i), only_seat (suc low) n number seats s rest (rw b at f))
    ]
