-- The waiting clients, in order of their tickets.
use Rattle.std.specs.{List.{AllByRecursion, sum_by}, Prelude.{Bool, List, None, Option, Some, [], false, fold, if◌then◌else◌, length}}
use Rattle.std.specs.Prelude.{slice_get, true, ℕ, ◌==◌, ◌∷◌, ◌≡◌, ◌≤◌}
use Rattle.bq_job.specs.machine.{SeatRecord, is_pair_before, is_waiting, seat_with}
use Rattle.bq_state.specs.{Cost.waited_tubes, EndingWaits.waiter_of, Offers.these, SeatStates.seat_passes}

-- the waiting clients, each as its ticket and its seat, the first one first; and for how many there is room
pub record WaitingList : Type 0 where
  pub waiters : List (ℕ × ℕ)
  pub room : ℕ

-- one more, after those that come before it
abbrev pub placed : {A : Type 0} → (A → A → Bool) → A → List A → List A
placed before x [] = x ∷ []
placed before x (y ∷ ys) = if before y x then y ∷ placed before x ys else x ∷ y ∷ ys

-- None comes before an earlier one in the list.
abbrev pub IsRising : {A : Type 0} → (A → A → Bool) → List A → Type 0
IsRising before [] = Unit {0}
IsRising before (x ∷ xs) = AllByRecursion (λ y. before y x ≡ false) xs × IsRising before xs

abbrev pub is_waiter_before : ℕ × ℕ → ℕ × ℕ → Bool
is_waiter_before a b = is_pair_before a.0 a.1 b.0 b.1

-- there is no other waiter, or it comes before this one
abbrev pub is_none_or_before : ℕ × ℕ → Option (ℕ × ℕ) → Bool
is_none_or_before t None = true
is_none_or_before t (Some other) = is_waiter_before other t

-- the waiter comes after this one, or there is none
abbrev pub is_waiter_after : Option (ℕ × ℕ) → ℕ × ℕ → Bool
is_waiter_after None t = true
is_waiter_after (Some last) t = is_waiter_before last t

-- the waiters without the first one of this seat
abbrev pub removed : ℕ → List (ℕ × ℕ) → List (ℕ × ℕ)
removed number [] = []
removed number (t ∷ waiters) = if t.1 == number then waiters else t ∷ removed number waiters

-- with the client, if there is one and it waits; and without it
abbrev pub once_joined : Option SeatRecord → List (ℕ × ℕ) → List (ℕ × ℕ)
once_joined None waiters = waiters
once_joined (Some s) waiters = if is_waiting s then placed is_waiter_before (waiter_of s) waiters else waiters

abbrev pub once_left : Option SeatRecord → List (ℕ × ℕ) → List (ℕ × ℕ)
once_left None waiters = waiters
once_left (Some s) waiters = if is_waiting s then removed s.number waiters else waiters

-- the waiting clients of these seats, in order
abbrev pub waiters_of : List SeatRecord → List (ℕ × ℕ)
waiters_of [] = []
waiters_of (s ∷ seats) = once_joined (Some s) (waiters_of seats)

-- the client that this waiter is passes the test
abbrev pub passes_at : (SeatRecord → Bool) → List SeatRecord → ℕ × ℕ → Bool
passes_at p seats t = seat_passes p (slice_get seats t.1)

-- the result so far, including this waiter
abbrev pub at_waiter : {B : Type 0} → (B → SeatRecord → B) → List SeatRecord → B → ℕ × ℕ → B
at_waiter f seats b t = fold f b (these (slice_get seats t.1))

-- the same, with the client found by its seat
abbrev pub by_seat : {B : Type 0} → (B → SeatRecord → B) → List SeatRecord → B → ℕ × ℕ → B
by_seat f seats b t = fold f b (these (seat_with t.1 seats))

-- for how many tubes this waiter waits
abbrev pub waited_at : List SeatRecord → ℕ × ℕ → ℕ
waited_at seats t = sum_by waited_tubes (these (seat_with t.1 seats))

-- The waiters are the waiting clients, and there is room for all.
pub record AreInTurn (waiting : WaitingList) (seats : List SeatRecord) : Type 0 where
  pub waiters : waiting.waiters ≡ waiters_of seats
  pub room : length seats ≤ waiting.room
