-- The waiting list after one seat changes.
use Rattle.bq_jobs.proofs.TableLemmas.{has_value}
use Rattle.std.proofs.Common.{Bool, List, None, Option, Some, [], ap, arith, false, inl, inr, length, map, not, refl, set, slice_get, suc}
use Rattle.std.proofs.{Common.{sym, true, ℕ, ◌+◌, ◌-◌, ◌<◌, ◌==◌, ◌∙◌, ◌∷◌, ◌≡◌, ◌≤◌}, lemmas.Bool.{cases_Bool, eq-eqb, eqb-true}}
use Rattle.std.{proofs.lemmas.{Grind.common_steps, List.{Sums.count_by-le-length, length-map}}, specs.Cmp.IsStrictWeakOrder}
use Rattle.std.specs.{List.{AllByRecursion as All, insert, position, prefix_len, remove}, Prelude.count_by}
use Rattle.bq_job.proofs.{ChoiceLemmas.pair_order, LawfulLemmas.length_numbers, ListLemmas.{all_weaker, found_passes}}
use Rattle.bq_job.specs.machine.{SeatRecord, empty_seat, is_waiting, numbers, seat_with, watching}
use Rattle.bq_state.proofs.{ClientLemmas.{all_others, heads, others, others_left}, PartsLemmas.{all_read, changed_there, number_kept}}
use Rattle.bq_state.{proofs.PartsLemmas.numbered_after, specs.SeatChanges.{AreNumbered, seat_changed, seat_changed_at}}
use Rattle.bq_state.specs.WaitingList.{AreInTurn, IsRising, WaitingList, is_none_or_before, is_waiter_before, placed, removed, waiters_of}
use Rattle.bq_state.specs.{WaitingList.{once_joined, once_left}, declared.{core_parts.CoreParts.CoreParts, seats.SeatChange.SeatChange}}

one_more : (k : ℕ) → 1 + k ≡ suc k
one_more k = omega arith

-- the place after all elements that come before
pub placed_at : {A : Type 0} (before : A → A → Bool) (x : A) (xs : List A)
    → insert xs (prefix_len (λ y. before y x) xs) x ≡ placed before x xs
placed_at before x [] = refl
placed_at before x (y ∷ ys) = elim (cases_Bool (before y x)) [ inl e ↦ rw (e, one_more, ← placed_at before x ys) refl | inr e ↦ rw e refl ]

pub placed_length : {A : Type 0} (before : A → A → Bool) (x : A) (xs : List A) → length (placed before x xs) ≡ suc (length xs)
placed_length before x [] = refl
placed_length before x (y ∷ ys) = grind (arith, placed_length before x ys)

-- Of two different elements one comes before the other, so the order of insertion does not matter.
pub placed_twice : {A : Type 0} {before : A → A → Bool} (order : IsStrictWeakOrder before) (a b : A) (xs : List A)
    → (before a b ≡ false → before b a ≡ true) → placed before a (placed before b xs) ≡ placed before b (placed before a xs)
placed_twice {before = before} order a b [] apart = grind (arith)
placed_twice {A = A} {before = before} order a b (x ∷ xs) apart = grind (arith, common_steps, placed_twice order a b xs)

-- waiters of different seats
waiter_order : IsStrictWeakOrder is_waiter_before
waiter_order = pair_order (λ u. u.0) (λ u. u.1)

-- The waiters are that of the seat with a number, if it waits, and those of the others.
waiters_parted : (n low : ℕ) (seats : List SeatRecord) → map (λ s. s.number) seats ≡ numbers low (length seats)
    → waiters_of seats ≡ once_joined (seat_with n seats) (waiters_of (others n seats))
waiters_parted n low [] h = refl
waiters_parted n low (s ∷ seats) h =
    grind (arith, common_steps, heads, eqb-true, all_others, placed_twice waiter_order, found_passes, waiters_parted n (suc low) seats)

-- none of those others has this number
pub all_placed : {A : Type 0} (P : A → Type 0) (before : A → A → Bool) (x : A) (xs : List A) → P x → All P xs → All P (placed before x xs)
all_placed P before x [] h all = (h, tt)
all_placed P before x (y ∷ ys) h all = grind (arith, all_placed P before x ys h all.1)

others_stay : (n : ℕ) (seats : List SeatRecord) → All (λ t. (t.1 == n) ≡ false) (waiters_of (others n seats))
others_stay n [] = tt
others_stay n (s ∷ seats) = grind (arith, all_placed, others_stay n seats)

-- an inserted waiter is removed again
removed_again : (before : ℕ × ℕ → ℕ × ℕ → Bool) (t : ℕ × ℕ) (waiters : List (ℕ × ℕ)) → All (λ u. (u.1 == t.1) ≡ false) waiters
    → removed t.1 (placed before t waiters) ≡ waiters
removed_again before t [] all = rw (eq-eqb t.1 t.1 refl) refl
removed_again before t (u ∷ waiters) all = grind (arith, removed_again before t waiters all.1)

waiter_taken : (n : ℕ) (o : Option SeatRecord) (waiters : List (ℕ × ℕ)) → ((s : SeatRecord) → o ≡ Some s → s.number ≡ n)
    → All (λ t. (t.1 == n) ≡ false) waiters → once_left o (once_joined o waiters) ≡ waiters
waiter_taken n None waiters at all = refl
waiter_taken n (Some s) waiters at all = rw (at s refl) (grind (arith, common_steps, removed_again is_waiter_before))

-- After the client with a number has left, the others remain,
waiters_left : (n : ℕ) (seats : List SeatRecord) → AreNumbered seats
    → once_left (seat_with n seats) (waiters_of seats) ≡ waiters_of (others n seats)
waiters_left n seats h = grind (arith, waiter_taken, found_passes, waiters_parted n 0 seats h, others_stay n seats)

-- and it is inserted again as it is then.
pub waiters_moved : (n : ℕ) (what : SeatChange) (seats : List SeatRecord) → AreNumbered seats
    → once_joined (seat_with n (map (seat_changed_at n what) seats)) (once_left (seat_with n seats) (waiters_of seats)) ≡ waiters_of
    (map (seat_changed_at n what) seats)
waiters_moved n what seats h = rw (waiters_left n seats h, sym (others_left n (seat_changed what) (number_kept what) seats))
    (sym (waiters_parted n 0 (map (seat_changed_at n what) seats) (numbered_after n what seats h)))

-- The waiters are ordered.
pub rising_placed : {A : Type 0} {before : A → A → Bool} (order : IsStrictWeakOrder before) (x : A) (ys : List A) → IsRising before ys
    → IsRising before (placed before x ys)
rising_placed order x [] rising = (tt, tt)
rising_placed {before = before} order x (y ∷ ys) rising = grind (arith, all_placed, all_weaker, rising_placed order x ys)

rising_waiters : (seats : List SeatRecord) → IsRising is_waiter_before (waiters_of seats)
rising_waiters [] = tt
rising_waiters (s ∷ seats) = grind (arith, rising_placed, waiter_order, rising_waiters seats)

pub rising_left : (n : ℕ) (seats : List SeatRecord) → AreNumbered seats
    → IsRising is_waiter_before (once_left (seat_with n seats) (waiters_of seats))
rising_left n seats h = rw (waiters_left n seats h) (rising_waiters (others n seats))

-- if the last one comes before another, each does
rising_ends : {A : Type 0} {before : A → A → Bool} (order : IsStrictWeakOrder before) (t : A) (xs : List A) (k : ℕ) (l : A)
    → IsRising before xs → slice_get xs k ≡ Some l → suc k ≡ length xs → before l t ≡ true → prefix_len (λ u. before u t) xs ≡ length xs
rising_ends order t [] k l rising read ends e = absurd cc
rising_ends {before = before} order t (x ∷ xs) k l rising read ends e =
    grind (arith, common_steps, all_read, rising_ends order t xs (k - 1) l)

pub all_before : (t : ℕ × ℕ) (waiters : List (ℕ × ℕ)) → IsRising is_waiter_before waiters
    → is_none_or_before t (slice_get waiters (length waiters - 1)) ≡ true → prefix_len (λ u. is_waiter_before u t) waiters ≡ length waiters
all_before t [] rising ends = refl
all_before t (x ∷ xs) rising ends =
    grind (arith, common_steps, rising_ends waiter_order t (x ∷ xs) (length xs), has_value (x ∷ xs) (length xs))

-- the first waiter of a seat is removed
removed_there : (n : ℕ) (xs : List (ℕ × ℕ)) → prefix_len (λ t. not (t.1 == n)) xs < length xs
    → removed n xs ≡ remove xs (prefix_len (λ t. not (t.1 == n)) xs)
removed_there n [] h = absurd (omega (arith, h))
removed_there n (x ∷ xs) h = elim (cases_Bool (x.1 == n)) [
  | inl e ↦ rw e refl
  | inr e ↦ let less = rw e at h in rw (e, one_more) (ap (λ ys. x ∷ ys) (removed_there n xs (omega (arith, less))))
]

removed_nowhere : (n : ℕ) (xs : List (ℕ × ℕ)) → length xs ≤ prefix_len (λ t. not (t.1 == n)) xs → removed n xs ≡ xs
removed_nowhere n [] h = refl
removed_nowhere n (x ∷ xs) h = grind (arith, common_steps, removed_nowhere n xs)

pub removed_found : (n : ℕ) (xs : List (ℕ × ℕ)) (i : ℕ) → Some i ≡ position (λ t. t.1 == n) xs
    → (i < length xs) × (removed n xs ≡ remove xs i)
removed_found n xs i found = grind (arith, removed_there)

pub removed_missed : (n : ℕ) (xs : List (ℕ × ℕ)) → None ≡ position (λ t. t.1 == n) xs → removed n xs ≡ xs
removed_missed n xs none = grind (arith, removed_nowhere)

-- there are as many waiters as clients that wait
pub count_of_waiters : (seats : List SeatRecord) → length (waiters_of seats) ≡ count_by is_waiting seats
count_of_waiters [] = refl
count_of_waiters (s ∷ seats) = grind (arith, common_steps, placed_length, count_of_waiters seats)

pub waiters_in_turn : (waiters : List (ℕ × ℕ)) (waiting : WaitingList) (seats : List SeatRecord) → waiters ≡ waiting.waiters
    → AreInTurn waiting seats → length waiters ≡ count_by is_waiting seats
waiters_in_turn waiters waiting seats same q = ap length (same ∙ q.waiters) ∙ count_of_waiters seats

pub many_wait : (st : CoreParts) (waiters : List (ℕ × ℕ)) (n : ℕ) → waiters ≡ st.waiting.waiters → n ≡ length waiters
    → n ≡ count_by is_waiting st.seats.items
many_wait st waiters n same is = is ∙ waiters_in_turn waiters st.waiting st.seats.items same st.sound.waiting

-- and so at most as many as seats
pub waiters_within : (seats : List SeatRecord) → length (waiters_of seats) ≤ length seats
waiters_within seats = omega (arith, count_of_waiters seats, count_by-le-length is_waiting seats)

-- if no client begins or ends to wait, the waiters stay
waiters_kept : (f : SeatRecord → SeatRecord) → ((s : SeatRecord) → once_joined (Some (f s)) ≡ once_joined (Some s))
    → (seats : List SeatRecord)
    → waiters_of (map f seats) ≡ waiters_of seats
waiters_kept f same [] = refl
waiters_kept f same (s ∷ seats) = λ i. same s i (waiters_kept f same seats i)

pub in_turn_watching : (names : List (List ℕ)) (i : ℕ) (s : SeatRecord) (waiting : WaitingList) (seats : List SeatRecord)
    → slice_get seats i ≡ Some s → AreNumbered seats → AreInTurn waiting seats → AreInTurn waiting (set seats i (watching names s))
in_turn_watching names i s waiting seats found h q =
    grind (arith, changed_there seats i s (watching names) h found, waiters_kept, length-map)

-- at the start
pub none_in_turn : (ns : List ℕ) → waiters_of (map empty_seat ns) ≡ []
none_in_turn [] = refl
none_in_turn (n ∷ ns) = none_in_turn ns

pub many_seats : (n room : ℕ) → n ≤ room → length (map empty_seat (numbers 0 n)) ≤ room
many_seats n room h = grind (arith, length-map, length_numbers)
