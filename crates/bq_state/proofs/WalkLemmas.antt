-- A walk over the waiting clients, in order of their tickets, has the same result as one over all
-- seats.
use Rattle.std.proofs.Common.{Bool, List, None, Option, Some, [], ap, arith, false, if◌then◌else◌, length, map, refl, slice_get, suc}
use Rattle.std.proofs.{Common.{true, ℕ, ◌<◌, ◌==◌, ◌∷◌, ◌≡◌}, lemmas.{Bool.{cases_Bool, ne_eqb}, Grind.common_steps}}
use Rattle.std.proofs.lemmas.{List.Folds.find_at, Option.{slice_get_past, slice_get_read, slice_get_within}}
use Rattle.std.specs.{List.{AllByRecursion as All, list_any, position}, Prelude.{find, fold, is_some, option_map}}
use Rattle.bq_job.proofs.{ChoiceLemmas.{first_of_contains, first_of_is_some, pair_order}, KeptLemmas.numbers_above}
use Rattle.bq_job.{proofs.ListLemmas.{all_from_members, all_weaker, found_passes}, specs.machine.{SeatRecord, better_of, first_of}}
use Rattle.bq_job.specs.machine.{is_wait_before, is_waiting, numbers, ticket_of}
use Rattle.bq_state.proofs.{ClientLemmas.heads, PartsLemmas.seat_read, WaitingLemmas.{all_placed, rising_placed}}
use Rattle.bq_state.specs.{EndingWaits.{waiter_of, waits_after}, Places.item_at, SeatChanges.AreNumbered, SeatStates.seat_passes}
use Rattle.bq_state.specs.WaitingList.{IsRising, at_waiter, is_waiter_after, is_waiter_before, passes_at, placed, waiters_of}

-- the clients that wait, in the order of their tickets
abbrev pub in_turn : List SeatRecord → List SeatRecord
in_turn [] = []
in_turn (s ∷ seats) = if is_waiting s then placed is_wait_before s (in_turn seats) else in_turn seats

map_placed : (s : SeatRecord) (ss : List SeatRecord)
    → map waiter_of (placed is_wait_before s ss) ≡ placed is_waiter_before (waiter_of s) (map waiter_of ss)
map_placed s [] = refl
map_placed s (u ∷ us) = grind (arith, map_placed s us)

waiters_in : (seats : List SeatRecord) → waiters_of seats ≡ map waiter_of (in_turn seats)
waiters_in [] = refl
waiters_in (s ∷ seats) = grind (arith, map_placed, waiters_in seats)

-- a property of the clients that wait
all_in_turn : (P : SeatRecord → Type 0) (seats : List SeatRecord) → All (λ s. is_waiting s ≡ true → P s) seats → All P (in_turn seats)
all_in_turn P [] all = tt
all_in_turn P (s ∷ seats) all = grind (arith, all_placed, all_in_turn P seats all.1)

-- each seat is at its place
read_each : (seats : List SeatRecord) → AreNumbered seats → All (λ s. slice_get seats s.number ≡ Some s) seats
read_each seats h = grind (arith, all_from_members, slice_get_read, found_passes, seat_read)

-- a fold in which the order does not matter
fold_placed : {A B : Type 0} (f : B → A → B) (before : A → A → Bool) (x : A) (ys : List A)
    → All (λ y. (b : B) → f (f b x) y ≡ f (f b y) x) ys → (b : B) → fold f b (placed before x ys) ≡ fold f (f b x) ys
fold_placed f before x [] all b = refl
fold_placed {A = A} {B = B} f before x (y ∷ ys) all b = grind (arith, common_steps, fold_placed f before x ys)

fold_there : {B : Type 0} (f : B → SeatRecord → B) (seats ss : List SeatRecord) → All (λ s. slice_get seats s.number ≡ Some s) ss → (b : B)
    → fold (at_waiter f seats) b (map waiter_of ss) ≡ fold f b ss
fold_there f seats [] all b = refl
fold_there f seats (s ∷ ss) all b = grind (arith, fold_there f seats ss all.1 (f b s))

module _ {B : Type 0} (f : B → SeatRecord → B) (skips : (s : SeatRecord) → is_waiting s ≡ false → (b : B) → f b s ≡ b)
    (swaps : (s t : SeatRecord) → (s.number == t.number) ≡ false → (b : B) → f (f b s) t ≡ f (f b t) s) where
  fold_in_turn : (low : ℕ) (seats : List SeatRecord) → map (λ s. s.number) seats ≡ numbers low (length seats) → (b : B)
      → fold f b (in_turn seats) ≡ fold f b seats
  fold_in_turn low [] h b = refl
  fold_in_turn low (s ∷ seats) h b =
      let parts = heads low s seats h in
      let others = all_in_turn (λ t. (b : B) → f (f b s) t ≡ f (f b t) s) seats (all_weaker _ _ _
      (λ t above _. swaps s t (ne_eqb s.number t.number (λ same. absurd (omega arith)))) (numbers_above _ _ _ parts.1)) in
      grind (arith, common_steps, cases_Bool, skips, fold_placed, fold_in_turn (suc low) seats parts.1)

  -- a walk over the waiters gives the same result as a fold over all seats
  pub walked : (seats : List SeatRecord) → AreNumbered seats → (b : B) → fold (at_waiter f seats) b (waiters_of seats) ≡ fold f b seats
  walked seats h b = search (all_in_turn, all_weaker, read_each, waiters_in, fold_there, fold_in_turn)

-- seats with different numbers never compare equal
better_swaps : (p : SeatRecord → Bool) (s t : SeatRecord) → (s.number == t.number) ≡ false → (b : Option SeatRecord)
    → better_of p is_wait_before (better_of p is_wait_before b s) t ≡ better_of p is_wait_before (better_of p is_wait_before b t) s
better_swaps p s t other b = grind (arith, common_steps)

-- The clients that wait are in the order of their tickets.
rising_in_turn : (seats : List SeatRecord) → IsRising is_wait_before (in_turn seats)
rising_in_turn [] = tt
rising_in_turn (s ∷ seats) =
    grind (arith, rising_placed (pair_order (λ (s : SeatRecord). ticket_of s.wait) (λ s. s.number)), rising_in_turn seats)

fold_stays : {A : Type 0} (p : A → Bool) (before : A → A → Bool) (b : A) (xs : List A) → All (λ y. before y b ≡ false) xs
    → fold (better_of p before) (Some b) xs ≡ Some b
fold_stays p before b [] all = refl
fold_stays p before b (x ∷ xs) all = grind (arith, fold_stays p before b xs all.1)

first_rising : {A : Type 0} (p : A → Bool) (before : A → A → Bool) (xs : List A) → IsRising before xs → first_of p before xs ≡ find p xs
first_rising p before [] rising = refl
first_rising p before (x ∷ xs) rising = grind (arith, fold_stays p before x xs rising.0, first_rising p before xs rising.1)

find_mapped : (q : ℕ × ℕ → Bool) (p : SeatRecord → Bool) (ss : List SeatRecord) → All (λ s. q (waiter_of s) ≡ p s) ss
    → find q (map waiter_of ss) ≡ option_map waiter_of (find p ss)
find_mapped q p [] all = refl
find_mapped q p (s ∷ ss) all = grind (arith, find_mapped q p ss all.1)

-- The first waiter that passes is that of the first client that does.
pub first_waiter : (q : ℕ × ℕ → Bool) (p : SeatRecord → Bool) (seats : List SeatRecord) → AreNumbered seats
    → ((s : SeatRecord) → is_waiting s ≡ false → p s ≡ false)
    → ((s : SeatRecord) → is_waiting s ≡ true → slice_get seats s.number ≡ Some s → q (waiter_of s) ≡ p s)
    → find q (waiters_of seats) ≡ option_map waiter_of (first_of p is_wait_before seats)
first_waiter q p seats h waits agrees =
    let there = all_in_turn _ _ (all_weaker _ _ _ (λ s read waiting. agrees s waiting read) (read_each _ h)) in
    grind (arith, common_steps, waiters_in, find_mapped, first_rising, rising_in_turn, fold_in_turn, better_swaps)

pub item_found : {A : Type 0} (q : A → Bool) (xs : List A) → item_at xs (position q xs) ≡ find q xs
item_found q xs = grind (arith, find_at, slice_get_past)

any_found : {A : Type 0} (q : A → Bool) (xs : List A) → list_any q xs ≡ is_some (find q xs)
any_found q [] = refl
any_found q (x ∷ xs) = grind (arith, any_found q xs)

pub none_first : (o : Option SeatRecord) → None ≡ option_map waiter_of o → None ≡ o
none_first o h = grind (arith, common_steps)

module _ (p : SeatRecord → Bool) (seats : List SeatRecord) (h : AreNumbered seats) where
  -- The first client that passes is the first waiter that does.
  pub found_first : ((s : SeatRecord) → is_waiting s ≡ false → p s ≡ false)
      → find (passes_at p seats) (waiters_of seats) ≡ option_map waiter_of (first_of p is_wait_before seats)
  found_first waits = first_waiter _ p seats h waits (λ s _ read. ap (seat_passes p) read)

  -- One of the waiters passes if and only if a client does.
  pub any_waiter : ((s : SeatRecord) → is_waiting s ≡ false → p s ≡ false)
      → list_any (passes_at p seats) (waiters_of seats) ≡ list_any p seats
  any_waiter waits = grind (arith, common_steps, any_found, found_first waits, first_of_is_some p is_wait_before seats)

  -- The client that was found is at the index of its number.
  pub first_read : (t : ℕ × ℕ) → Some t ≡ option_map waiter_of (first_of p is_wait_before seats)
      → (slice_get seats t.1 ≡ first_of p is_wait_before seats) × (t.1 < length seats)
  first_read t is = elim (first_of p is_wait_before seats) as (λ o. first_of p is_wait_before seats ≡ o
      → Some t ≡ option_map waiter_of o → (slice_get seats t.1 ≡ o) × (t.1 < length seats)) [
        | None ↦ λ e i. absurd cc
        | Some s ↦ λ e i. grind (arith, common_steps, read_each seats h, first_of_contains p is_wait_before seats s e, slice_get_within)
      ] refl is

pub next_waiter : (last : Option (ℕ × ℕ)) (seats : List SeatRecord) → AreNumbered seats
    → find (is_waiter_after last) (waiters_of seats) ≡ option_map waiter_of (first_of (waits_after last) is_wait_before seats)
next_waiter last seats h = first_waiter _ _ _ h (λ s e. rw e refl) (λ s waits _. rw waits (grind (arith, common_steps)))
