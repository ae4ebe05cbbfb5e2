-- What is kept besides jobs through a step: counters stay within their limit, tube records stay
-- ordered, and each seat watches at least one tube and none twice.
use Rattle.std.proofs.Common.{ℕ, ◌≡◌, ◌≤◌, Bool, true, List, [], ◌∷◌, map, refl, arith, rules}
use Rattle.std.proofs.{lemmas.{Bool.{cases_Bool, cond_both, leb-true}, Grind.common_steps}, Math.Nat.min-le_right}
use Rattle.std.specs.{Cmp.Lexicographic.bytes_decides, List.AllByRecursion as All, Prelude.{filter, nat_le}}
use Rattle.bq_job.specs.machine.{Effect, Machine.Machine, Memory, SeatRecord}
use Rattle.bq_job.specs.machine.{TubeRecord, acted, after_timers, at_moment, empty_seat}
use Rattle.bq_job.specs.{beside.{IsLawful, is_in_order, watches_once}, machine.{forgetting, greatest}}
use Rattle.bq_job.specs.machine.{is_name_before, is_tube, with_end, with_name, with_record, with_seat}
use Rattle.bq_job.specs.{Types.{Request, Step}}
use Rattle.bq_job.proofs.Trace.{IsServing, keeping}
use Rattle.bq_job.proofs.ListLemmas.{all_at, all_always, all_before_map, all_of_filter, all_of_map, all_pass, all_weaker, keys_of_map}
use Rattle.bq_job.proofs.{CommandKinds.kind_of, EachEvent.each_acted, EffectKinds.Kind}
use Rattle.bq_job.proofs.NameOrderLemmas.{first_of_order, in_order_from, in_order_with, rest_in_order}

-- everything that is kept besides the jobs
pub record Books (timeouts puts connections burials tickets : ℕ) (tubes : List TubeRecord) (seats : List SeatRecord) : Type 0 where
  pub timeouts_fit : timeouts ≤ greatest
  pub puts_fit : puts ≤ greatest
  pub connections_fit : connections ≤ greatest
  pub burials_fit : burials ≤ greatest
  pub tickets_fit : tickets ≤ greatest
  pub order : is_in_order (map (λ t. t.name) tubes) ≡ true
  pub watched : All (λ s. watches_once s ≡ true) seats

abbrev pub Booked : Machine → Type 0
Booked m = Books m.timeouts m.puts m.connections m.burials m.tickets m.tubes m.seats

pub booked_of_lawful : (m : Machine) → IsLawful m → Booked m
booked_of_lawful m h =
    let all = all_pass (λ n. nat_le n greatest) (m.timeouts ∷ m.puts ∷ m.connections ∷ m.burials ∷ m.tickets ∷ []) h.counts in
    search (rules, leb-true, all_pass)

abbrev in_order : List TubeRecord → Bool
in_order tubes = is_in_order (map (λ t. t.name) tubes)

-- records are forgotten
ordered_filter : (p : TubeRecord → Bool) (tubes : List TubeRecord) → in_order tubes ≡ true → in_order (filter p tubes) ≡ true
ordered_filter p [] h = refl
ordered_filter p (t ∷ tubes) h =
    let names = map (λ (u : TubeRecord). u.name) tubes in
    let rest = ordered_filter p tubes (rest_in_order t.name names h) in
    let first = all_before_map (λ n. is_name_before t.name n ≡ true) (λ u. u.name) tubes (first_of_order t.name names h) in
    let kept = all_weaker _ _ (filter p tubes) (λ u i. i.0) (all_of_filter _ p tubes first) in
    let more = in_order_from t.name _ (all_of_map _ (λ (u : TubeRecord). u.name) (filter p tubes) kept) rest in
    cond_both (p t) (t ∷ filter p tubes) (filter p tubes) (λ us. in_order us ≡ true) (λ e. more) (λ e. rest)

-- a record is inserted in order
names_with : (t : TubeRecord) (tubes : List TubeRecord)
    → map (λ u. u.name) (with_record t tubes) ≡ with_name (map (λ u. u.name) tubes) t.name
names_with t [] = refl
names_with t (u ∷ tubes) = grind (arith, common_steps, cases_Bool, bytes_decides, names_with t tubes)

ordered_with : (t : TubeRecord) (tubes : List TubeRecord) → in_order tubes ≡ true → in_order (with_record t tubes) ≡ true
ordered_with t tubes h = rw (names_with t tubes) (in_order_with t.name (map (λ u. u.name) tubes) h)

-- the parts of a step
pub booked_forgetting : (m : Machine) → Booked m → Booked (forgetting m)
booked_forgetting m h = let order = ordered_filter (λ t. is_tube t.name m) m.tubes h.order in assumption

pub booked_timers : (at : ℕ) (m : Machine) → Booked m → Booked (forgetting (after_timers (at_moment at m)))
booked_timers at m h = search (rules, booked_forgetting, min-le_right, keys_of_map, all_always)

-- the seat of one number changes
booked_seat : (number : ℕ) (f : SeatRecord → SeatRecord) (m : Machine) → Booked m
    → ((s : SeatRecord) → watches_once s ≡ true → watches_once (f s) ≡ true) → Booked (with_seat number f m)
booked_seat number f m h well = grind (arith, common_steps, all_of_map, all_weaker, cond_both)

pub booked : IsServing (λ m given n. Booked m → Booked n)
booked = record {
  trace = keeping Booked;
  dispatch = λ m g n turn h. grind (arith, common_steps, cases_Bool, booked_seat);
  wait_end = λ m g n turn h. grind (arith, common_steps, booked_seat);
  forgets = booked_forgetting;
}

-- every kind of command
booked_kind : (request : Request) (m : Machine) (s : SeatRecord) {e : Effect} → Kind m s request e → Booked m
    → watches_once s ≡ true → Booked e.machine
booked_kind request m s k h w = grind (arith, ordered_with, booked_seat)

-- every event
pub booked_acted : (memory : Memory) (m : Machine) (seat : ℕ) (what : Step) → Booked m → Booked (acted memory m seat what).machine
booked_acted memory m seat what h = each_acted m seat (λ what e. Booked e.machine) (record {
  nothing = λ what. h;
  connects = λ s is. grind (arith, common_steps, booked_seat);
  asks = λ request s is c w. booked_kind request m s (kind_of request m s) h
      (all_at (λ t. watches_once t ≡ true) m.seats s h.watched is.there);
  ends = λ s is. booked_seat s.number with_end m h (λ t i. i);
  closes = λ s is. booked_seat s.number (λ t. empty_seat t.number) m h (λ t w. refl);
  drains = h;
}) (λ what. h) memory what
