-- Counts of seats after one seat changes.
use Rattle.std.proofs.Common.{Bool, List, Option, Some, [], arith, cond, false, filter, if◌then◌else◌, length, map, not, refl, set}
use Rattle.std.proofs.{Common.{slice_get, suc, true, ℕ, ◌&&◌, ◌+◌, ◌<◌, ◌==◌, ◌∷◌, ◌≡◌, ◌≤◌}, lemmas.Bool.{cases_Bool, eqb-true, ne_eqb}}
use Rattle.std.{proofs.lemmas.{Grind.common_steps, List.{length-map, Sums.count_by-le-length}}, specs.{List.list_any, Option.option_map}}
use Rattle.std.specs.Prelude.{count_by, nat_lt}
use Rattle.bq_job.{proofs.ListLemmas.{all_always, count_cons, keys_of_map}, specs.machine.{SeatRecord, greatest, numbers}}
use Rattle.bq_job.specs.machine.{seat_with, watching}
use Rattle.bq_state.{proofs.PartsLemmas.{changed_there, number_kept}, specs.SeatStates.seat_passes}
use Rattle.bq_state.specs.{SeatChanges.{AreNumbered, seat_changed, seat_changed_at}, Tallies.count_with}
use Rattle.bq_state.specs.{Tallies.count_without, declared.seats.SeatChange.SeatChange}

-- all seats except the one with this number
abbrev pub others : ℕ → List SeatRecord → List SeatRecord
others n seats = filter (λ s. not (s.number == n)) seats

-- the first seat's number, and those of the others
pub heads : (low : ℕ) (s : SeatRecord) (seats : List SeatRecord) → map (λ s. s.number) (s ∷ seats) ≡ numbers low (length (s ∷ seats))
    → (s.number ≡ low) × (map (λ s. s.number) seats ≡ numbers (suc low) (length seats))
heads low s seats h = (cc, cc)

pub all_others : (n high : ℕ) (seats : List SeatRecord) → n < high → map (λ s. s.number) seats ≡ numbers high (length seats)
    → others n seats ≡ seats
all_others n high [] less h = refl
all_others n high (s ∷ seats) less h = grind (arith, common_steps, heads, ne_eqb, all_others n (suc high) seats)

-- the seats that pass are the seat with a number, if it passes, and others that pass
parted : (p : SeatRecord → Bool) (n low : ℕ) (seats : List SeatRecord) → map (λ s. s.number) seats ≡ numbers low (length seats)
    → cond (seat_passes p (seat_with n seats)) 1 0 + count_by p (others n seats) ≡ count_by p seats
parted p n low [] h = refl
parted p n low (s ∷ seats) h = grind (arith, common_steps, heads, cases_Bool, eqb-true, all_others, count_cons, parted p n (suc low) seats)

-- the seats after a change of the one with this number
abbrev pub changed_at : ℕ → (SeatRecord → SeatRecord) → List SeatRecord → List SeatRecord
changed_at n f seats = map (λ s. if s.number == n then f s else s) seats

module _ (n : ℕ) (f : SeatRecord → SeatRecord) (keeps : (s : SeatRecord) → (f s).number ≡ s.number) where
  -- a change of the seat with a number leaves the others
  pub others_left : (seats : List SeatRecord) → others n (changed_at n f seats) ≡ others n seats
  others_left [] = refl
  others_left (s ∷ seats) = grind (arith, others_left seats)

  -- the seat with a number, after it has changed
  pub found_changed : (seats : List SeatRecord) → seat_with n (changed_at n f seats) ≡ option_map f (seat_with n seats)
  found_changed [] = refl
  found_changed (s ∷ seats) = grind (arith, keeps s, found_changed seats)

  -- The count of seats that pass, after the seat with a number has changed. If the change does not
  -- affect the test, it may be left out.
  pub count_changed : (p : SeatRecord → Bool) (affected : Bool) (old : Option SeatRecord) (seats : List SeatRecord) → AreNumbered seats
      → length seats ≤ greatest → seat_with n seats ≡ old → (affected ≡ false → seat_passes p (option_map f old) ≡ seat_passes p old)
      → count_with (affected && seat_passes p (option_map f old)) (count_without (affected && seat_passes p old) (count_by p seats))
      ≡ count_by p (changed_at n f seats)
  count_changed p affected old seats h fits found same =
      let before = parted p n 0 seats h in
      let after = parted p n 0 (changed_at n f seats) (grind (arith, common_steps, keys_of_map, all_always, length-map)) in
      grind (arith, count_by-le-length, others_left, found_changed, length-map)

-- the count is above 0 if and only if an element passes
pub some_pass : {X : Type 0} (p : X → Bool) (xs : List X) → nat_lt 0 (count_by p xs) ≡ list_any p xs
some_pass p [] = refl
some_pass p (x ∷ xs) = grind (arith, common_steps, some_pass p xs)

-- The number of connected clients, after the seat with a number has changed,
pub connected_moved : (n : ℕ) (what : SeatChange) (seats : List SeatRecord) → AreNumbered seats → length seats ≤ greatest
    → count_with (seat_passes (λ s. s.connected) (seat_with n (map (seat_changed_at n what) seats)))
    (count_without (seat_passes (λ s. s.connected) (seat_with n seats)) (count_by (λ s. s.connected) seats))
    ≡ count_by (λ s. s.connected) (map (seat_changed_at n what) seats)
connected_moved n what seats h fits =
    rw (found_changed n (seat_changed what) (number_kept what) seats) (count_changed n (seat_changed what) (number_kept what)
    (λ s. s.connected) true (seat_with n seats) seats h fits refl (λ e. absurd cc))

-- and after it watches other tubes.
pub connected_watching : (names : List (List ℕ)) (i : ℕ) (s : SeatRecord) (seats : List SeatRecord) → slice_get seats i ≡ Some s
    → AreNumbered seats → count_by (λ s. s.connected) (set seats i (watching names s)) ≡ count_by (λ s. s.connected) seats
connected_watching names i s seats found h = grind (arith, common_steps, changed_there seats i s (watching names) h found)
