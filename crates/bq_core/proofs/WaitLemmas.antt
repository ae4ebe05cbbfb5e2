-- The ends of waits, one waiting client after another in the order of their tickets.
use Rattle.std.proofs.Common.{Bool, List, None, Option, Some, [], ap, arith, cond, false, get_or, if◌then◌else◌, length, map}
use Rattle.std.proofs.Common.{map-id, not, refl, slice_get, sym, true, ℕ, ◌&&◌, ◌+◌, ◌<◌, ◌==◌, ◌∙◌, ◌∷◌, ◌≡◌, ◌≤◌}
use Rattle.std.proofs.lemmas.{Bool.{Decides.nat_tests, and_from, and_parts, cases_Bool, eqb-true}, Grind.common_steps}
use Rattle.std.proofs.lemmas.Option.{slice_get_read}
use Rattle.std.specs.{List.{AllByRecursion as All, Contains, list_any}, Prelude.count_by}
use Rattle.bq_core.proofs.{ActLemmas.number_found, AskLemmas.{asks_more, asks_none, asks_then}, TurnLemmas.{gives_joined, gives_nothing}}
use Rattle.bq_core.{proofs.TurnLemmas.{one_end, room_kept, same_read}, specs.{Turns.{Gives, HasRoom, none_refused}, WaitEnds.Checks}}
use Rattle.bq_core_api.specs.Outbox.{Outbox}
use Rattle.bq_job.proofs.ChoiceLemmas.{first_of_contains, first_of_is, first_of_is_least, first_of_none, first_of_none_passes}
use Rattle.bq_job.proofs.{ChoiceLemmas.{first_of_passes, pair_order, pair_other}, ComputedLemmas.waiting_falls, KeptLemmas.only_seat}
use Rattle.bq_job.proofs.ListLemmas.{all_always, all_at, all_both, all_from_members, all_of_map, all_weaker, count_cons, list_any_not}
use Rattle.bq_job.{proofs.ListLemmas.{list_any_with, none_pass, one_or_none}, specs.{declared.answer.Answer.Answer, machine.SeatRecord}}
use Rattle.bq_job.specs.machine.{WaitEndTurn, end_of_wait, ends_waiting, first_of, is_ending_lease, is_timed_out_at, is_wait_before}
use Rattle.bq_job.specs.machine.{Machine.Machine, is_waiting, next_end, ticket_of, without_wait}
use Rattle.bq_state.{proofs.PartsLemmas.seat_read, specs.{CoreParts.machine_of, EndingWaits.{AreChecked, is_after, left_after}}}
use Rattle.bq_state.specs.{EndingWaits.{told_at_end, waiter_of, waits_after}, declared.core_parts.CoreParts.CoreParts}
use Rattle.bq_job.specs.declared.answer.Answer.TheVariants as answers

-- the answer to a waiting client, by its first lease and its timeout
pub told_now : (st : CoreParts) (k number : ℕ) (s x y : SeatRecord) (soon over : Bool) → k < length st.seats.items
    → x ≡ get_or st.seats.items k x → y ≡ get_or st.seats.items k y → slice_get st.seats.items k ≡ Some s → number ≡ x.number
    → soon ≡ list_any (λ j. is_ending_lease st.moment number j.state) st.store.jobs.jobs → over ≡ is_timed_out_at st.moment y
    → (if soon then Some answers.DeadlineSoon else (if over then Some answers.TimedOut else None)) ≡ told_at_end (machine_of st) s
told_now st k number s x y soon over there read again here number_is soon_is over_is =
    rw (soon_is, over_is, number_is, same_read _ _ _ _ there read here, same_read _ _ _ _ there again here) refl

-- a client that would be answered now is one whose wait ends now, with that answer
pub told_is : (m : Machine) (s : SeatRecord) (answer : Answer) → is_waiting s ≡ true → Some answer ≡ told_at_end m s
    → (ends_waiting m s ≡ true) × (answer ≡ end_of_wait m s)
told_is m s answer waits told = grind (arith, common_steps)

-- no client is left: no wait ends
pub none_left : (st : CoreParts) (last : Option (ℕ × ℕ)) → AreChecked (machine_of st) last
    → None ≡ first_of (waits_after last) is_wait_before st.seats.items → next_end (machine_of st) ≡ None
none_left st last looked none =
    let ends = ends_waiting (machine_of st) in
    first_of_none_passes ends is_wait_before st.seats.items (list_any_not ends st.seats.items
    (all_weaker _ _ st.seats.items (λ s h. grind (arith, common_steps, h.0, h.1)) (all_both _ _ st.seats.items looked
    (none_pass _ _ (first_of_none (waits_after last) is_wait_before st.seats.items (sym none))))))

-- the count falls if each change makes no element pass that did not, and one element no longer
-- passes
fewer : (p q : SeatRecord → Bool) (f : SeatRecord → SeatRecord) (xs : List SeatRecord) → All (λ x. q (f x) ≡ true → p x ≡ true) xs
    → count_by q (map f xs) + cond (list_any (λ x. p x && not (q (f x))) xs) 1 0 ≤ count_by p xs
fewer p q f [] w = omega arith
fewer p q f (x ∷ xs) w = grind (arith, common_steps, count_cons, one_or_none, cases_Bool, fewer p q f xs w.1)

-- the next client that is checked
module _ (st : CoreParts) (last : Option (ℕ × ℕ)) (looked : AreChecked (machine_of st) last) (k : ℕ) (s : SeatRecord)
    (there : k < length st.seats.items) (read : s ≡ get_or st.seats.items k s)
    (found : slice_get st.seats.items k ≡ first_of (waits_after last) is_wait_before st.seats.items) where
  here : slice_get st.seats.items k ≡ Some s
  here = slice_get_read _ _ k s refl there read

  chosen : first_of (waits_after last) is_wait_before st.seats.items ≡ Some s
  chosen = sym found ∙ here

  member : Contains st.seats.items s
  member = first_of_contains (waits_after last) is_wait_before st.seats.items s chosen

  passes : (is_waiting s ≡ true) × (is_after last s ≡ true)
  passes = and_parts (is_waiting s) (is_after last s) (first_of_passes (waits_after last) is_wait_before st.seats.items s chosen)

  pub room_left : (outs : Outbox) → HasRoom 0 (machine_of st) outs → length outs.given < outs.most
  room_left outs room = omega (arith, waiting_falls (machine_of st) s member passes.0)

  same : (t : SeatRecord) → Contains st.seats.items t → (t.number == s.number) ≡ true → t ≡ s
  same t c e =
      let at = seat_read _ _ _ st.sound.numbered here in
      all_at _ _ t (only_seat 0 (length st.seats.items) k _ s st.sound.numbered at) c (eqb-true _ _ e ∙ number_found k _ s at)

  -- a client whose wait ends now is still to be checked
  is_left : (t : SeatRecord) → Contains st.seats.items t → ends_waiting (machine_of st) t ≡ true → waits_after last t ≡ true
  is_left t c e = grind (arith, common_steps, and_parts, all_at)

  not_sooner : (t : SeatRecord) → Contains st.seats.items t → waits_after last t ≡ true → is_wait_before t s ≡ false
  not_sooner t c w = first_of_is_least (waits_after last) (pair_order (λ u. ticket_of u.wait) (λ u. u.number)) st.seats.items s t chosen c w

  comes_after : (t : SeatRecord) → Contains st.seats.items t → waits_after last t ≡ true → (t.number == s.number) ≡ false
      → is_after (Some (waiter_of s)) t ≡ true
  comes_after t c w other = pair_other (ticket_of s.wait) s.number (ticket_of t.wait) t.number (not_sooner t c w) other

  next_is : ends_waiting (machine_of st) s ≡ true → next_end (machine_of st) ≡ Some s
  next_is e = first_of_is _ (pair_order (λ u. ticket_of u.wait) (λ u. u.number)) _ _ member e (λ y c p. not_sooner y c (is_left y c p))
      (λ y c a b. same y c (grind (arith, nat_tests)))

  -- what becomes of it
  module _ (old new : Outbox) (next : Machine) (looks : Checks (machine_of st) k old new next) where
    check_given : Gives WaitEndTurn none_refused (machine_of st) next old new
    check_given =
        let is = looks s here passes.0 in
        grind (arith, one_end, next_is, member, same, gives_nothing)

    changed : (b : Bool) → ends_waiting (machine_of st) s ≡ b
        → next ≡ record (machine_of st) { seats = map (λ t. if b && (t.number == s.number) then without_wait t else t) st.seats.items }
    changed true e = ((looks s here passes.0).ends e).ended
    changed false e = ((looks s here passes.0).stays e).machine
        ∙ ap (λ seats. record (machine_of st) { seats = seats }) (sym (map-id st.seats.items))

    module _ (waiter : ℕ × ℕ) (waiter_is : waiter ≡ waiter_of s) where
      check_passed : AreChecked next (Some waiter)
      check_passed =
          let b = ends_waiting (machine_of st) s in
          rw (changed b refl, waiter_is) (all_of_map _ _ _ (all_from_members _ _ (λ t c. passed t c b (t.number == s.number) refl refl)))
        where
          passed : (t : SeatRecord) → Contains st.seats.items t → (b d : Bool) → ends_waiting (machine_of st) s ≡ b
              → (t.number == s.number) ≡ d → ends_waiting (machine_of st) (if b && d then without_wait t else t) ≡ true
              → is_after (Some (waiter_of s)) (if b && d then without_wait t else t) ≡ true
          passed t c b d e o h = grind (arith, same t c, comes_after t c, is_left t c)

      check_falls : left_after (Some waiter) next < left_after last (machine_of st)
      check_falls =
          let b = ends_waiting (machine_of st) s in
          let q = waits_after (Some (waiter_of s)) in
          let f = λ (t : SeatRecord). if b && (t.number == s.number) then without_wait t else t in
          let one = list_any_with (λ t. waits_after last t && not (q (f t))) st.seats.items s member
          (and_from (waits_after last s) (not (q (f s))) (rw (passes.0, passes.1)) (out (b && (s.number == s.number)))) in
          let few = rw one at (fewer (waits_after last) q f st.seats.items (all_always _ _ (λ t. less t (b && (t.number == s.number))))) in
          rw (changed b refl, waiter_is) (omega arith)
        where
          less : (t : SeatRecord) (b : Bool) → waits_after (Some (waiter_of s)) (if b then without_wait t else t) ≡ true
              → waits_after last t ≡ true
          less t true h = absurd cc
          less t false h = grind (arith, common_steps, and_parts, passes)

          out : (b : Bool) → not (waits_after (Some (waiter_of s)) (if b then without_wait s else s)) ≡ true
          out true = refl
          out false = grind (arith, common_steps, nat_tests)

      pub checked_on : Gives WaitEndTurn none_refused (machine_of st) next old new × AreChecked next (Some waiter)
          × (left_after (Some waiter) next < left_after last (machine_of st))
      checked_on = (check_given, check_passed, check_falls)

-- a turn of the loop over the waiting clients, under a name that an attribute can cite
pub ruleset ends_of_waits = (common_steps, asks_more, asks_none, asks_then, gives_joined, gives_nothing, room_kept, all_always, count_cons)
