-- The tubes that waiting clients watch, as commands change the seats.
use Rattle.std.proofs.{Common.{List, [], arith, cond, false, length, map, map-id, true, ℕ, ◌∷◌, ◌≡◌, ◌≤◌}, lemmas.Bool.eqb-true}
use Rattle.std.{proofs.lemmas.{Grind.common_steps, List.Sums.sum_by-cons}, specs.List.{AllByRecursion as All, sum_by}}
use Rattle.bq_core_api.specs.Cost.{tubes_watched, watched_tubes}
use Rattle.bq_job.proofs.{CommandKinds.kind_of, EachEvent.each_acted, EffectKinds.Kind, KeptLemmas.only_seat, ListLemmas.all_always}
use Rattle.bq_job.{proofs.ListLemmas.{all_pass, all_weaker}, specs.beside.{IsLawful, waiting_count, watches_once}}
use Rattle.bq_job.specs.{declared.{request.Request.Request, step.Step.Step}, machine.{Effect, Memory, SeatRecord, acted, empty_seat}}
use Rattle.bq_job.specs.machine.{Machine.Machine, is_waiting, numbers, with_end, with_seat}
use Rattle.bq_state.specs.Cost.{waited, waited_tubes}

sum_of_map : {X : Type 0} (f g : X → ℕ) (h : X → X) (xs : List X) → All (λ x. f (h x) ≤ g x) xs → sum_by f (map h xs) ≤ sum_by g xs
sum_of_map f g h [] all = omega arith
sum_of_map f g h (x ∷ xs) all = omega (arith, sum_by-cons f (h x) (map h xs), sum_by-cons g x xs, all.0, sum_of_map f g h xs all.1)

-- a waiting client is among those that wait or are at the seat
pub waited_few : (number : ℕ) (m : Machine) → waited m ≤ watched_tubes number m
waited_few number m =
    rw map-id at (sum_of_map waited_tubes (tubes_watched number) (λ s. s) m.seats (all_always _ _ (λ s. grind (arith, common_steps))))

-- a change of one seat after which no more tubes are waited for than were watched there
with_seat_few : (number : ℕ) (f : SeatRecord → SeatRecord) (m : Machine)
    → All (λ s. s.number ≡ number → waited_tubes (f s) ≤ length s.watched) m.seats → waited (with_seat number f m) ≤ watched_tubes number m
with_seat_few number f m less = grind (arith, common_steps, sum_of_map, all_weaker, eqb-true)

-- every kind of command
kind_few : (request : Request) (m : Machine) (seat : ℕ) (s : SeatRecord) {e : Effect} → s.number ≡ seat
    → All (λ t. t.number ≡ seat → t ≡ s) m.seats → is_waiting s ≡ false → Kind m s request e → waited e.machine ≤ watched_tubes seat m
kind_few request m seat s at alone quiet h = grind (arith, common_steps, waited_few, with_seat_few, all_always, all_weaker)

-- After the command's own effect, a waiting client is one that waited before it or the one that
-- asked.
pub acted_few : (memory : Memory) (m : Machine) (seat : ℕ) (what : Step) → map (λ s. s.number) m.seats ≡ numbers 0 m.settings.seats
    → waited (acted memory m seat what).machine ≤ watched_tubes seat m
acted_few memory m seat what seated = each_acted m seat (λ what e. waited e.machine ≤ watched_tubes seat m) (record {
  nothing = λ what. waited_few seat m;
  connects = grind (arith, with_seat_few, all_always);
  asks = λ request s is c w. kind_few request m seat s is.number (only_seat _ _ _ _ _ seated is.found) w (kind_of request m s);
  ends = λ s is. rw is.number (with_seat_few seat with_end m (all_always _ _ (λ t e. grind (arith, common_steps))));
  closes = λ s is. rw is.number (with_seat_few seat (λ t. empty_seat t.number) m (all_always _ _ (λ t e. omega arith)));
  drains = waited_few seat m;
}) (λ what. waited_few seat m) memory what

-- each client watches at least one tube
pub waiting_few : (seat : ℕ) (m : Machine) → IsLawful m → waiting_count m ≤ watched_tubes seat m
waiting_few seat m lawful = rw map-id at (sum_of_map (λ s. cond (is_waiting s) 1 0) (tubes_watched seat) (λ s. s) m.seats
    (all_weaker (λ s. watches_once s ≡ true) _ _ (λ s h. grind (arith, common_steps)) (all_pass watches_once m.seats lawful.watched)))
