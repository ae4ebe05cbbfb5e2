-- What the parts of a step give to one client: turns of dispatch and ends of waits give it the
-- answer that it waits for; the command's own effect gives it an answer or makes it wait.
use Rattle.std.proofs.Common.{ℕ, zero, suc, ◌≡◌, ◌≤◌, ◌<◌, ◌+◌, Bool, true, false, ◌&&◌, cond, List, []}
use Rattle.std.proofs.Common.{◌∷◌, ◌++◌, map, length, arith, refl, ◌∙◌, inl, inr, Some}
use Rattle.std.proofs.lemmas.Bool.{and_from, and_right, cases_Bool, cond_both, eq-eqb, eqb-false, eqb-true, or_from}
use Rattle.std.proofs.lemmas.{Grind.common_steps, List.Folds.list_any-append}
use Rattle.std.specs.{List.{AllByRecursion as All, Contains, list_any}, Prelude.◌==◌}
use Rattle.bq_job.specs.machine.{GivenAnswer, Machine.Machine, SeatRecord}
use Rattle.bq_job.specs.machine.{has_closed, is_closed_answer, is_waiting, numbers, seat_with, without_wait}
use Rattle.bq_job.specs.{promise.answers_to, Types.{Answer}}
use Rattle.bq_job.proofs.Trace.{IsServing}
use Rattle.bq_job.proofs.ListLemmas.{all_always, all_of_map, all_weaker, found_passes}
use Rattle.bq_job.proofs.ListLemmas.{keys_of_map, list_any_not, list_any_of_map, list_any_with}
use Rattle.bq_job.proofs.{LawfulLemmas.{dispatch_answers, end_answers}}
use Rattle.bq_job.proofs.{KeptLemmas.only_seat, LawfulLemmas.Answers}

-- whether the client at the seat waits, and whether a client is connected there
abbrev pub waits_in : ℕ → List SeatRecord → Bool
waits_in seat seats = list_any (λ s. s.number == seat && is_waiting s) seats

abbrev pub connected_in : ℕ → List SeatRecord → Bool
connected_in seat seats = list_any (λ s. s.number == seat && s.connected) seats

abbrev pub ended_in : ℕ → List SeatRecord → Bool
ended_in seat seats = list_any (λ s. s.number == seat && s.ended) seats

-- one answer, if it is waited for
abbrev pub one_for : Bool → ℕ
one_for b = cond b 1 0

-- The client may get the answer that it waits for, and nothing else happens to it.
pub record Passes (seat : ℕ) (first last : List SeatRecord) (given : List GivenAnswer) : Type 0 where
  pub count : length (answers_to seat given) + one_for (waits_in seat last) ≡ one_for (waits_in seat first)
  pub unclosed : has_closed (answers_to seat given) ≡ false
  pub connected : connected_in seat last ≡ connected_in seat first
  pub ended : ended_in seat last ≡ ended_in seat first
  pub numbers : map (λ s. s.number) last ≡ map (λ s. s.number) first

passes_itself : (seat : ℕ) (seats : List SeatRecord) → Passes seat seats seats []
passes_itself seat seats = record { count = omega arith; unclosed = refl; connected = refl; ended = refl; numbers = refl }

pub answers_append : (seat : ℕ) (xs ys : List GivenAnswer) → answers_to seat (xs ++ ys) ≡ answers_to seat xs ++ answers_to seat ys
answers_append seat xs ys = grind (arith, common_steps)

pub unclosed_append : (xs ys : List Answer) → has_closed xs ≡ false → has_closed ys ≡ false → has_closed (xs ++ ys) ≡ false
unclosed_append xs ys h i = list_any-append is_closed_answer xs ys ∙ or_from (has_closed xs) (has_closed ys) h i

-- tests that agree on each element and its change
any_of_map : {X : Type 0} (p q : X → Bool) (f : X → X) (xs : List X) → ((x : X) → q (f x) ≡ p x) → list_any q (map f xs) ≡ list_any p xs
any_of_map p q f [] h = refl
any_of_map p q f (x ∷ xs) h = rw (h x, any_of_map p q f xs h) refl

-- the seats after the one with this number has changed
abbrev pub changed : ℕ → (SeatRecord → SeatRecord) → List SeatRecord → List SeatRecord
changed number f seats = map (λ s. cond (s.number == number) (f s) s) seats

-- The changed seat fails a test that every change fails.
pub changed_none : (seat number : ℕ) (f : SeatRecord → SeatRecord) (q : SeatRecord → Bool) (seats : List SeatRecord) → number ≡ seat
    → ((s : SeatRecord) → q (f s) ≡ false) → list_any (λ s. s.number == seat && q s) (changed number f seats) ≡ false
changed_none seat number f q seats is fails =
    rw (← is) (list_any_not _ _ (all_of_map _ _ seats (all_always _ seats (λ s. cond_both (s.number == number) (f s) s
    (λ t. (t.number == number && q t) ≡ false) (λ e. and_right ((f s).number == number) (q (f s)) (fails s)) (λ e. rw e refl)))))

-- A change that keeps the number and the result of a test keeps the test's result at every seat.
pub changed_quiet : (seat number : ℕ) (f : SeatRecord → SeatRecord) (q : SeatRecord → Bool) (seats : List SeatRecord)
    → ((s : SeatRecord) → (f s).number ≡ s.number) → ((s : SeatRecord) → q (f s) ≡ q s)
    → list_any (λ s. s.number == seat && q s) (changed number f seats) ≡ list_any (λ s. s.number == seat && q s) seats
changed_quiet seat number f q seats same as_before = grind (arith, common_steps, any_of_map, cond_both)

-- A change of another seat keeps the test's result at this one.
pub changed_elsewhere : (client number : ℕ) (f : SeatRecord → SeatRecord) (q : SeatRecord → Bool) (seats : List SeatRecord)
    → (number == client) ≡ false → ((s : SeatRecord) → (f s).number ≡ s.number)
    → list_any (λ s. s.number == client && q s) (changed number f seats) ≡ list_any (λ s. s.number == client && q s) seats
changed_elsewhere client number f q seats other same = grind (arith, common_steps, any_of_map, cond_both, eqb-true)

pub changed_numbers : (number : ℕ) (f : SeatRecord → SeatRecord) (seats : List SeatRecord) → ((s : SeatRecord) → (f s).number ≡ s.number)
    → map (λ s. s.number) (changed number f seats) ≡ map (λ s. s.number) seats
changed_numbers number f seats same = grind (arith, common_steps, keys_of_map, all_always, cond_both)

-- A waiting client is answered, and no longer waits.
passes_answer : (seat : ℕ) (s : SeatRecord) (m : Machine) (given : GivenAnswer) (next : Machine) → Answers s m given next
    → Passes seat m.seats next.seats (given ∷ [])
passes_answer seat s m given next a =
    let none = changed_none s.number s.number without_wait is_waiting m.seats refl (λ t. refl) in
    let others = changed_elsewhere seat s.number without_wait is_waiting m.seats in
    let connected = changed_quiet seat s.number without_wait (λ t. t.connected) m.seats (λ t. refl) (λ t. refl) in
    let ended = changed_quiet seat s.number without_wait (λ t. t.ended) m.seats (λ t. refl) (λ t. refl) in
    rw a.seats_are (grind (arith, common_steps, changed_numbers, cases_Bool, eqb-true, and_from))

pub passes : (seat : ℕ) → IsServing (λ m given n. Passes seat m.seats n.seats given)
passes seat = record {
  trace = record {
    none = λ m. passes_itself seat m.seats;
    joins = λ a b c xs ys h i. grind (arith, common_steps, answers_append, unclosed_append);
  };
  dispatch = λ m g n turn. passes_answer seat _ m g n (dispatch_answers m g n turn);
  wait_end = λ m g n turn. passes_answer seat _ m g n (end_answers m g n turn);
  forgets = λ m. passes_itself seat m.seats;
}

-- The only seat of its number.
pub record Found (seat : ℕ) (seats : List SeatRecord) : Type 0 where
  pub client : SeatRecord
  pub found : seat_with seat seats ≡ Some client
  pub number : client.number ≡ seat
  pub there : Contains seats client
  pub waits : waits_in seat seats ≡ is_waiting client
  pub connected : connected_in seat seats ≡ client.connected
  pub ended : ended_in seat seats ≡ client.ended

-- A test of the client at the seat is a test of its record.
found_any : (seat : ℕ) (seats : List SeatRecord) (s : SeatRecord) (p : SeatRecord → Bool) → s.number ≡ seat → Contains seats s
    → All (λ t. t.number ≡ seat → t ≡ s) seats → list_any (λ t. t.number == seat && p t) seats ≡ p s
found_any seat seats s p is there alone =
    grind (arith, common_steps, cases_Bool, list_any_with, and_from, eq-eqb, list_any_not, all_weaker, and_right, eqb-true)

-- If there are enough seats, one is found.
finds_seat : (low n seat : ℕ) (seats : List SeatRecord) → map (λ s. s.number) seats ≡ numbers low n → low ≤ seat → seat < low + n
    → (s : SeatRecord) × (seat_with seat seats ≡ Some s)
finds_seat low zero seat seats e from below = absurd (omega arith)
finds_seat low (suc n) seat [] e from below = absurd cc
finds_seat low (suc n) seat (s ∷ seats) e from below =
    let here : s.number ≡ low = (cc) in
    let rest : map (λ s. s.number) seats ≡ numbers (suc low) n = (cc) in
    elim (cases_Bool (s.number == seat)) [
      | inl b ↦ (s, rw b refl)
      | inr b ↦ grind (arith, common_steps, eqb-false, finds_seat (suc low) n seat seats rest)
    ]

pub finds : (n seat : ℕ) (seats : List SeatRecord) → map (λ s. s.number) seats ≡ numbers 0 n → seat < n → Found seat seats
finds n seat seats e below =
    let f = finds_seat 0 n seat seats e (omega arith) (omega arith) in
    let p = found_passes (λ s. s.number == seat) seats f.0 f.1 in
    let is = eqb-true (f.0).number seat p.0 in
    let any = λ (q : SeatRecord → Bool). found_any seat seats f.0 q is p.1 (only_seat 0 n seat seats f.0 e f.1) in
    record {
      client = f.0;
      found = f.1;
      number = is;
      there = p.1;
      waits = any is_waiting;
      connected = any (λ s. s.connected);
      ended = any (λ s. s.ended);
    }

-- The changed seat passes a test that every change passes.
pub changed_some : (seat : ℕ) (f : SeatRecord → SeatRecord) (q : SeatRecord → Bool) (seats : List SeatRecord) (s : SeatRecord)
    → s.number ≡ seat → Contains seats s → ((s : SeatRecord) → (f s).number ≡ s.number) → ((s : SeatRecord) → q (f s) ≡ true)
    → list_any (λ t. t.number == seat && q t) (changed s.number f seats) ≡ true
changed_some seat f q seats s is there same passes =
    rw (← is) (list_any_of_map (λ t. t.number == s.number) _ _ seats
    (all_always _ seats (λ t e. rw e (and_from ((f t).number == s.number) (q (f t)) (rw (same t) e) (passes t))))
    (list_any_with (λ t. t.number == s.number) seats s there (eq-eqb s.number s.number refl)))
