-- What is computed is a step of the model.
use Rattle.std.proofs.Common.{ℕ, zero, suc, ◌≡◌, ◌≤◌, ◌<◌, true, false, ◌||◌, arith, refl, inl, Option, Some, None, rules}
use Rattle.std.proofs.lemmas.{Bool.{and_left, and_parts}, Grind.common_steps}
use Rattle.std.specs.List.{Contains, list_any}
use Rattle.bq_job.specs.Types.{Job}
use Rattle.bq_job.specs.machine.{Chain, DispatchTurn, GivenAnswer, Machine.Machine, SeatRecord, WaitEndTurn}
use Rattle.bq_job.specs.machine.{after_hand_out, ends_waiting, reserved_by, with_job}
use Rattle.bq_job.specs.machine.{has_refused_share, is_deadline_soon, is_job_before, is_timed_out, is_wait_before, is_waiting}
use Rattle.bq_job.specs.machine.{is_waiting_for, may_have, next_end, next_job, next_seat, with_seat, without_wait}
use Rattle.bq_job.specs.beside.Computed.{Served, dispatched}
use Rattle.bq_job.specs.beside.Computed.{ended_at, handed_out, handed_to, wait_ended, waiting_count}
use Rattle.bq_job.proofs.ChoiceLemmas.{first_of_contains, first_of_none_passes, first_of_passes, first_of_some}
use Rattle.bq_job.proofs.ListLemmas.{all_always, all_weaker, count_falls, count_none, list_any_not, list_any_with}

-- One client fewer waits once this client's wait has ended.
pub waiting_falls : (m : Machine) (s : SeatRecord) → Contains m.seats s → is_waiting s ≡ true
    → waiting_count (with_seat s.number without_wait m) < waiting_count m
waiting_falls m s i w = grind (arith, common_steps, count_falls, all_always, list_any_with)

-- The next job has a next client.
pub next_has_seat : (m : Machine) (j : Job) → next_job m ≡ Some j → (s : SeatRecord) × (next_seat m j ≡ Some s)
next_has_seat m j e =
    first_of_some (is_waiting_for m j) is_wait_before m.seats
    (first_of_passes (λ j. list_any (is_waiting_for m j) m.seats) is_job_before m.jobs j e)

-- The next client is at a seat, waits and may have the job.
pub next_seat_waits : (m : Machine) (j : Job) (s : SeatRecord) → next_seat m j ≡ Some s
    → Contains m.seats s × (is_waiting s ≡ true) × (may_have m s j ≡ true)
next_seat_waits m j s f =
    let parts = and_parts (is_waiting s) (may_have m s j) (first_of_passes (is_waiting_for m j) is_wait_before m.seats s f) in
    (first_of_contains (is_waiting_for m j) is_wait_before m.seats s f, parts.0, parts.1)

-- the client whose wait ends next is at a seat and waits
pub next_end_waits : (m : Machine) (s : SeatRecord) → next_end m ≡ Some s → Contains m.seats s × (is_waiting s ≡ true)
next_end_waits m s e = (
  first_of_contains (ends_waiting m) is_wait_before m.seats s e,
  (and_parts (is_waiting s) (is_deadline_soon m s || is_timed_out m s) (first_of_passes (ends_waiting m) is_wait_before m.seats s e)).0,
)

-- what is computed from a model by at most `n` turns: turns, and all of them if no more clients wait
pub record AreAll (Turns : Machine → GivenAnswer → Machine → Type 0) {A : Type 0} (next : Machine → Option A) (n : ℕ) (m : Machine)
    (s : Served) : Type 0 where
  pub turns : Chain Turns m s.given s.machine
  pub done : waiting_count m ≤ n → next s.machine ≡ None
  pub shared : has_refused_share s.given ≡ false

abbrev pub AreDispatched : ℕ → Machine → Served → Type 0
AreDispatched = AreAll DispatchTurn next_job

abbrev pub AreEnded : ℕ → Machine → Served → Type 0
AreEnded = AreAll WaitEndTurn next_end

handed_to_all : (rest : Machine → Served) (n : ℕ) (m : Machine) (j : Job) (o : Option SeatRecord)
    → ((k : Machine) → AreDispatched n k (rest k)) → next_job m ≡ Some j → next_seat m j ≡ o
    → AreDispatched (suc n) m (handed_to rest m j o)
handed_to_all rest n m j None goes e f = let h = next_has_seat m j e in absurd (let g = h.1 in cc)
handed_to_all rest n m j (Some s) goes e f =
    let less = waiting_falls (with_job j.id (reserved_by m.moment s.number) m) s (next_seat_waits m j s f).0 (next_seat_waits m j s f).1 in
    let r = goes (after_hand_out m j s) in
    record {
      turns = (after_hand_out m j s, rw (e, f) (inl (refl, refl)), r.turns);
      done = λ w. r.done (omega arith);
      shared = r.shared;
    }

handed_out_all : (rest : Machine → Served) (n : ℕ) (m : Machine) (o : Option Job) → ((k : Machine) → AreDispatched n k (rest k))
    → next_job m ≡ o → AreDispatched (suc n) m (handed_out rest m o)
handed_out_all rest n m None goes e = record { turns = refl; done = λ w. e; shared = refl }
handed_out_all rest n m (Some j) goes e = handed_to_all rest n m j (next_seat m j) goes e refl

pub dispatched_all : (n : ℕ) (m : Machine) → AreDispatched n m (dispatched n m)
dispatched_all zero m = record {
  turns = refl;
  done = λ w. search (rules, count_none, first_of_none_passes, list_any_not, all_always, all_weaker, and_left);
  shared = refl;
}
dispatched_all (suc n) m = handed_out_all (λ next. dispatched n next) n m (next_job m) (dispatched_all n) refl

ended_at_all : (rest : Machine → Served) (n : ℕ) (m : Machine) (o : Option SeatRecord) → ((k : Machine) → AreEnded n k (rest k))
    → next_end m ≡ o → AreEnded (suc n) m (ended_at rest m o)
ended_at_all rest n m None goes e = record { turns = refl; done = λ w. e; shared = refl }
ended_at_all rest n m (Some s) goes e =
    let w = next_end_waits m s e in
    let less = waiting_falls m s w.0 w.1 in
    let r = goes (with_seat s.number without_wait m) in
    record {
      turns = (with_seat s.number without_wait m, rw e (refl, refl), r.turns);
      done = λ w. r.done (omega arith);
      shared = grind (arith, common_steps, r.shared);
    }

pub wait_ended_all : (n : ℕ) (m : Machine) → AreEnded n m (wait_ended n m)
wait_ended_all zero m = record {
  turns = refl;
  done = λ w. search (rules, first_of_none_passes, list_any_not, all_weaker, and_left, count_none);
  shared = refl;
}
wait_ended_all (suc n) m = ended_at_all (λ next. wait_ended n next) n m (next_end m) (wait_ended_all n) refl
