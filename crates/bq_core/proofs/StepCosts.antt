-- A whole step and its searches, from its parts.
use Rattle.std.proofs.Common.{Bool, [], ap, arith, false, length, max, subst, sym, ℕ, ◌*◌, ◌++◌, ◌+◌, ◌<◌, ◌||◌, ◌∙◌, ◌≡◌}
use Rattle.std.proofs.{Common.◌≤◌, Math.{Nat.add-mul}, lemmas.{Grind.common_steps, List.Sums.count_by-le-length}}
use Rattle.std.proofs.lemmas.{List.length-append, Nat.mul-le}
use Rattle.bq_core.proofs.{AskLemmas.{asks_more, asks_then, search_grows}, CostLemmas.{ended_stop, entries_less, handed_stop, waited_less}}
use Rattle.bq_core.proofs.{StepLemmas.timers_alike, TurnLemmas.{chain_joined, room_kept}, WatchLemmas.acted_few}
use Rattle.bq_core.{proofs.WatchLemmas.{waited_few, waiting_few}, specs.{AtOnce.ActsOrGives, Serving.{ServesAsking, TakesStepWithin}}}
use Rattle.bq_core.specs.Turns.{Gives, HasRoom}
use Rattle.bq_core_api.specs.{Cost.{due_timers, tubes_watched, watched_tubes}, Outbox.Outbox}
use Rattle.bq_job.proofs.{KeptLemmas.{Keeps, kept_of_lawful}, LawfulLemmas.{HasServed, kept_of_timers, leaves_acted, length_addressed}}
use Rattle.bq_job.{proofs.{LawfulLemmas.{seats_many, served}, QuietLemmas.forgets_nothing}, specs.beside.{IsLawful, waiting_count}}
use Rattle.bq_job.specs.{declared.step.Step.Step, machine.{DispatchTurn, Machine.Machine, acted, after_timers, at_moment}}
use Rattle.bq_job.specs.machine.{forgetting, has_refused_share, is_growth_refused, is_waiting}
use Rattle.bq_jobs.specs.{JobsSeen.JobsSeen, Searching.Asks}
use Rattle.bq_state.specs.{Asking.{AsksWithin, search_among}, CoreParts.machine_of, Cost.{waited, waited_tubes}}
use Rattle.bq_state.specs.declared.core_parts.CoreParts.{CoreParts}

-- some turns of dispatch, and then dispatch and the ends of waits
pub serving_after : (first middle last : Machine) (before between after : JobsSeen) (old told new : Outbox)
    (g : Gives DispatchTurn has_refused_share first middle old told) → ServesAsking middle told new last between after
    → Asks (length g.given * (waited first + 9)) before between → ServesAsking first old new last before after
serving_after first middle last before between after old told new g rest asks =
    let s = rest.serves in
    let d = s.serves.dispatches in
    let falls = handed_stop waited_tubes waited_less first g.given middle g.turns in
    record {
      serves = record {
        handed = g.given ++ s.handed;
        ended = s.ended;
        serves = grind (arith, chain_joined);
        added = grind (arith, common_steps);
        most = grind arith;
        left_out = grind arith;
        unshared = grind (arith, common_steps);
        tubes = s.tubes;
        room = λ more h. s.room more (room_kept DispatchTurn has_refused_share more first middle old told g h);
      };
      asks = asks_more _ (grind (arith, common_steps, add-mul, mul-le)) (asks_then asks rest.asks);
    }

-- at the beginning of a step there is room for an answer to each waiting client, and for one more
pub first_room : (first fired : CoreParts) (at most : ℕ) (begun : Outbox) → IsLawful (machine_of first)
    → machine_of fired ≡ after_timers (at_moment at (machine_of first))
    → begun ≡ record { given = []; most = most; left_out = false; unshared = false } → first.config.seats < most
    → HasRoom 1 (machine_of fired) begun
first_room first fired at most begun lawful fires starts h =
    let kept = kept_of_lawful _ lawful in
    grind (arith, common_steps, seats_many (machine_of first) kept, kept, count_by-le-length is_waiting (machine_of first).seats)

-- The parts of a step make no more searches than its changes allow.
bounded : (t h c g q w v x y : ℕ) → w ≤ q → v ≤ q → x ≤ q → y ≤ q + 1
    → (10 * t + 2) + (h * (w + 9) + w + v + 1) + (9 * c + 20) + (g * (x + 9) + x + y + 1) ≤ (t + h + g + c + 8) * (q + 16)
bounded t h c g q w v x y a b d e = grind (arith, common_steps, mul-le, add-mul)

-- three parts, each of which searches among at most the largest number of jobs
summed : (n l g most : ℕ) {first before left last : JobsSeen} → Asks n first before → AsksWithin l before left → Asks g left last
    → n + l + g ≤ most → last.comparisons ≤ first.comparisons + most * search_among (max (length first.jobs) (length last.jobs))
summed n l g most {first} {before} {left} {last} a b d few =
    let j = max (length first.jobs) (length last.jobs) in
    let s = search_among j in
    let among = λ (n i : ℕ) (less : i ≤ j). mul-le n (search_among i) n s (omega arith) (search_grows _ _ less) in
    let x = among n (length first.jobs) (omega arith) in
    let y = among l (max (length before.jobs) (length left.jobs)) (omega arith) in
    let z = among g (length left.jobs) (omega arith) in
    let all = mul-le (n + l + g) s most s few (omega arith) in
    omega (arith, add-mul)

-- a step up to and including the command's own effect, and what dispatch then gave
module _ (first fired before after : CoreParts) (at seat most : ℕ) (what : Step) (begun between asked : Outbox)
    (lawful : IsLawful (machine_of first)) (fires : machine_of fired ≡ after_timers (at_moment at (machine_of first)))
    (starts : begun ≡ record { given = []; most = most; left_out = false; unshared = false })
    (x : ServesAsking (machine_of fired) begun between (machine_of before) fired.store.jobs before.store.jobs)
    (e : ActsOrGives (machine_of before) seat what between asked (machine_of after) before.store.jobs after.store.jobs) where
  begins : forgetting (after_timers (at_moment at (machine_of first))) ≡ machine_of fired
  begins = forgets_nothing _ (timers_alike at (machine_of first) lawful.tubes) ∙ sym fires

  served_first : HasServed (machine_of fired) x.serves.handed x.serves.ended (machine_of before)
  served_first = served _ _ _ _ (subst Keeps begins (kept_of_timers at (machine_of first) (kept_of_lawful _ lawful))) x.serves.serves

  left_is : e.left ≡ forgetting (acted e.acts.memory (machine_of before) seat what).machine
  left_is = e.forgotten ∙ ap forgetting e.acts.after

  -- the command's own effect and dispatch leave room for an answer to each waiting client
  pub room_then : first.config.seats < most → HasRoom 0 (machine_of after) asked
  room_then h =
      let room = x.serves.room 1 (first_room first fired at most begun lawful fires starts h) in
      let leaves = leaves_acted e.acts.memory (machine_of before) seat what served_first.keeps in
      grind (arith, length-append, length_addressed)

  -- The step is within its bound.
  pub step_within : (last : CoreParts) (new : Outbox) → Asks (10 * due_timers at (machine_of first) + 2) first.store.jobs fired.store.jobs
      → ServesAsking (machine_of after) asked new (machine_of last) after.store.jobs last.store.jobs
      → TakesStepWithin at seat what first last new
  step_within last new timers rest =
      let m = machine_of first in
      let a = e.acts in
      let s = x.serves in
      let answer = (acted a.memory (machine_of before) seat what).answer in
      let kept = served_first.keeps in
      let entries = tubes_watched seat in
      let then_serves = serving_after _ _ _ _ _ _ _ _ _ e.turns rest e.asks_then in
      let y = then_serves.serves in
      let w : waited (machine_of fired) ≤ watched_tubes seat m = omega (arith, ap waited fires, waited_few seat m) in
      let v : waiting_count (machine_of fired) ≤ watched_tubes seat m =
      omega (arith, ap waiting_count fires, waiting_few seat m lawful) in
      let falls = handed_stop entries (entries_less seat) _ _ _ s.serves.dispatches.turns in
      let falls_then = ended_stop entries (entries_less seat) _ _ _ s.serves.ends_waits.turns in
      let adds = acted_few a.memory (machine_of before) seat what kept.seated in
      let few : waited e.left ≤ watched_tubes seat m =
      grind (arith, common_steps, left_is, fires, s.serves.ends_waits.forgets, s.serves.dispatches.forgets) in
      let fewer : waiting_count e.left ≤ watched_tubes seat m + 1 =
      omega (arith, ap waiting_count left_is, leaves_acted a.memory (machine_of before) seat what kept, served_first, v) in
      record {
        step = record {
          memory = a.memory;
          before = machine_of before;
          after = e.left;
          handed = s.handed;
          ended = s.ended;
          handed_then = y.handed;
          ended_then = y.ended;
          serves = rw begins s.serves;
          possible = a.possible;
          acts = left_is;
          serves_then = y.serves;
          answers_are = grind arith;
          left_out = y.left_out ∙ a.left_out ∙ ap (λ b. b || is_growth_refused a.memory) (s.left_out ∙ ap (λ o. o.left_out) starts);
          unshared = grind arith;
        };
        stays = omega (arith, timers.stays, x.asks.stays, e.asks.stays, then_serves.asks.stays);
        comparisons = summed _ _ _ _ (asks_then timers x.asks) e.asks then_serves.asks (bounded _ _ _ _ _ _ _ _ _ w v few fewer);
      }
    where
      or_comm : (b c : Bool) → (b || c) ≡ (c || b)
      or_comm b c = grind (arith, common_steps)
