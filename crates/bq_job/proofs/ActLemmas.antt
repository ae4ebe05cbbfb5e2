-- What a command leaves: everything that each part of a step keeps, and at most one more client
-- that waits or is answered.
use Rattle.bq_job.proofs.KeptLemmas.{Keeps, has_holder, kept_of_close, kept_of_drain, kept_of_filter, ids_of_push}
use Rattle.std.proofs.lemmas.Bool.{leb-false, or_parts}
use Rattle.bq_job.proofs.ListLemmas.{all_always, all_weaker, count_cons, count_of_map, list_any_with, all_of_append}
use Rattle.std.proofs.Common.{◌⊎◌, ℕ, zero, suc, ◌≡◌, ◌≤◌, ◌+◌, Bool, true, cond, List}
use Rattle.std.proofs.Common.{[], ◌∷◌, map, arith, refl, inl, inr, Option, Some, None}
use Rattle.std.proofs.lemmas.{Bool.{and_from, cases_Bool, cond_both, eqb-true, or_right}, Grind.common_steps}
use Rattle.std.specs.{List.{AllByRecursion as All, Contains}, Prelude.{◌==◌, count_by}}
use Rattle.bq_job.specs.machine.{Effect, Machine.Machine, SeatRecord, after_close, after_connect, effect}
use Rattle.bq_job.specs.{beside.waiting_count, machine.{empty_seat, is_held_by, is_waiting, numbers, raised}}
use Rattle.bq_job.specs.machine.{reserve_effect, silent, state_once_left, telling, waiting_from}
use Rattle.bq_job.specs.{machine.with_seat, Types.{Answer, Job, Request, Step}}
use Rattle.bq_job.specs.declared.answer.Answer.TheVariants as answers
use Rattle.bq_job.proofs.KeptLemmas.{kept_of_jobs, kept_of_seat, numbers_above, only_seat}
use Rattle.bq_job.proofs.EffectKinds.{IsFreeOrOwn, Kind, adds, changes_jobs, changes_seat, changes_tube, deletes, passes, tells, waits}
use Rattle.bq_job.proofs.{BecomeLemmas.free_by_delay, CommandKinds.kind_of, EachEvent.{each_event}}

abbrev pub answer_count : Option Answer → ℕ
answer_count None = 0
answer_count (Some answer) = 1

pub record Leaves (m : Machine) (e : Effect) : Type 0 where
  pub keeps : Keeps e.machine
  pub waiting : waiting_count e.machine + answer_count e.answer ≤ waiting_count m + 1

leaves_telling : (m n : Machine) (answer : Answer) → Keeps n → waiting_count n ≤ waiting_count m → Leaves m (telling answer n)
leaves_telling m n answer h less = record { keeps = h; waiting = omega arith }

leaves_silent : (m n : Machine) → Keeps n → waiting_count n ≤ waiting_count m → Leaves m (silent n)
leaves_silent m n h less = record { keeps = h; waiting = omega arith }

-- the seat is one of the model's, and no other has its number
record IsThere (m : Machine) (s : SeatRecord) : Type 0 where
  alone : All (λ t. t.number ≡ s.number → t ≡ s) m.seats
  seated : Contains m.seats s

-- the same model with other jobs
leaves_jobs : (m n : Machine) (answer : Answer) → Keeps n → n.seats ≡ m.seats → Leaves m (telling answer n)
leaves_jobs m n answer h same = grind (arith, common_steps, leaves_telling)

-- a job that the client holds
pub held_here : (m : Machine) (s : SeatRecord) (j : Job) → Contains m.seats s → s.connected ≡ true → is_held_by s.number j ≡ true
    → has_holder m.seats j ≡ true
held_here m s j there c held = grind (arith, common_steps, or_right, list_any_with, and_from)

-- a job that is changed for the client that asks
holder_stays : (m : Machine) (s : SeatRecord) (j k : Job) → Contains m.seats s → s.connected ≡ true → (k ≡ j) ⊎ IsFreeOrOwn s k
    → has_holder m.seats j ≡ true → has_holder m.seats k ≡ true
holder_stays m s j k there c h held = grind (arith, common_steps, held_here)

-- A seat changes, and its client waits as before.
pub kept_of_quiet_seat : (number : ℕ) (f : SeatRecord → SeatRecord) (m : Machine) → Keeps m → ((s : SeatRecord) → (f s).number ≡ s.number)
    → ((s : SeatRecord) → (f s).connected ≡ s.connected) → ((s : SeatRecord) → (f s).wait ≡ s.wait) → Keeps (with_seat number f m)
kept_of_quiet_seat number f m h same stays waits_as = grind (arith, all_always, kept_of_seat h number f)

-- A change of one seat that makes no client wait does not add a waiting client.
no_more_wait : (number : ℕ) (f : SeatRecord → SeatRecord) (m : Machine) → ((s : SeatRecord) → is_waiting (f s) ≡ true → is_waiting s ≡ true)
    → waiting_count (with_seat number f m) ≤ waiting_count m
no_more_wait number f m less = grind (arith, common_steps, count_of_map, all_always, cond_both)

leaves_seat : (number : ℕ) (f : SeatRecord → SeatRecord) (m : Machine) (answer : Answer) → Keeps m
    → ((s : SeatRecord) → (f s).number ≡ s.number) → ((s : SeatRecord) → (f s).connected ≡ s.connected)
    → ((s : SeatRecord) → (f s).wait ≡ s.wait) → Leaves m (telling answer (with_seat number f m))
leaves_seat number f m answer h same stays waits_as =
    grind (arith, common_steps, leaves_telling, kept_of_quiet_seat number f m h same stays waits_as, no_more_wait)

at_most_one : (b : Bool) → cond b 1 0 ≤ 1
at_most_one b = grind (arith, common_steps, cases_Bool)

-- A change of one seat adds at most one waiting client.
one_more_waits : (f : SeatRecord → SeatRecord) (low n number : ℕ) (seats : List SeatRecord) → map (λ s. s.number) seats ≡ numbers low n
    → count_by is_waiting (map (λ s. cond (s.number == number) (f s) s) seats) ≤ count_by is_waiting seats + 1
one_more_waits f low n number [] e = omega arith
one_more_waits f low zero number (s ∷ seats) e = absurd cc
one_more_waits f low (suc n) number (s ∷ seats) e =
    let here : s.number ≡ low = (cc) in
    let rest : map (λ s. s.number) seats ≡ numbers (suc low) n = (cc) in
    rw (
      count_cons is_waiting (cond (s.number == number) (f s) s) (map (λ s. cond (s.number == number) (f s) s) seats),
      count_cons is_waiting s seats,
    )
    (elim (cases_Bool (s.number == number)) [
      | inl b ↦
          let at : s.number ≡ number = eqb-true s.number number b in
          let others : count_by is_waiting (map (λ s. cond (s.number == number) (f s) s) seats) ≤ count_by is_waiting seats =
          count_of_map is_waiting (λ s. cond (s.number == number) (f s) s) seats (all_weaker _ _ seats
          (λ u above. cond_both (u.number == number) (f u) u (λ t. is_waiting t ≡ true → is_waiting u ≡ true)
          (λ c. let is : u.number ≡ number = eqb-true u.number number c in absurd (omega arith)) (λ c w. w))
          (numbers_above (suc low) n seats rest)) in
          omega (arith, at_most_one (is_waiting (cond (s.number == number) (f s) s)))
      | inr b ↦ rw b (omega (arith, one_more_waits f (suc low) n number seats rest))
    ])

-- the client begins to wait
leaves_reserve : (until : Option ℕ) (m : Machine) (s : SeatRecord) → Keeps m → IsThere m s → s.connected ≡ true
    → Leaves m (reserve_effect until m s)
leaves_reserve until m s h there c =
    grind (arith, kept_of_seat h s.number (waiting_from (raised m.tickets) until), all_weaker, waits, one_more_waits)

-- every kind of command
leaves_kind : (request : Request) (m : Machine) (s : SeatRecord) {e : Effect} → Kind m s request e → Keeps m → IsThere m s
    → s.connected ≡ true → Leaves m e
leaves_kind request m s (passes none) h there c = leaves_silent m m h (omega arith)
leaves_kind request m s (tells answer one common unclosed) h there c = leaves_jobs m m answer h refl
leaves_kind request m s (waits until one waiting) h there c = leaves_reserve until m s h there c
leaves_kind request m s (adds pri delay ttr body one accepts free) h there c =
    grind (arith, common_steps, leaves_jobs, free_by_delay, ids_of_push, or_parts, leb-false, all_of_append)
leaves_kind request m s (deletes id j asks found free) h there c = search (leaves_jobs, kept_of_filter)
leaves_kind request m s (changes_jobs answer f burials says changes) h there c =
    leaves_jobs m (record m { jobs = map f m.jobs; burials = burials }) answer
    (kept_of_jobs h f changes.same (λ j held. holder_stays m s j (f j) there.seated c (changes.holder j) held)) refl
leaves_kind request m s (changes_seat answer f says changes) h there c = search leaves_seat
leaves_kind request m s (changes_tube tube seconds one) h there c = grind (arith, common_steps, leaves_jobs)

-- every event
pub leaves_effect : (m : Machine) (seat : ℕ) (what : Step) → Keeps m → Leaves m (effect m seat what)
leaves_effect m seat what h = each_event m seat (λ what e. Leaves m e) (record {
  nothing = λ what. (leaves_silent m m h (omega arith));
  connects = λ s is. leaves_silent m (after_connect m s.number)
      (kept_of_seat h s.number (λ t. record (empty_seat t.number) { connected = true })
      (all_always _ m.seats (λ t e. record { number = refl; stays = λ d. refl; waits = λ w. refl })))
      (no_more_wait s.number (λ t. record (empty_seat t.number) { connected = true }) m (λ t w. absurd cc));
  asks = λ request s is c w. leaves_kind request m s (kind_of request m s) h
      (grind (arith, all_weaker, only_seat 0 m.settings.seats seat m.seats s h.seated is.found)) c;
  ends = search (leaves_silent, kept_of_quiet_seat, no_more_wait);
  closes = λ s is. leaves_telling m (after_close m s.number) answers.Closed
      (kept_of_close h (state_once_left m) s.number (free_by_delay m.settings.requeue_delay m.moment))
      (no_more_wait s.number (λ t. empty_seat t.number) m (λ t w. absurd cc));
  drains = leaves_silent m (record m { draining = true }) (kept_of_drain h) (omega arith);
}) what
