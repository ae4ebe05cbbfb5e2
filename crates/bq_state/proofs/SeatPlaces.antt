-- Seats that are numbered in order are found by their places.
use Rattle.std.proofs.Common.{List, None, Option, Some, [], ap, arith, get_or, if◌then◌else◌, length, map, refl, slice_get, suc, sym, zero}
use Rattle.std.proofs.{Common.{ℕ, ◌++◌, ◌+◌, ◌<◌, ◌==◌, ◌∙◌, ◌∷◌, ◌≡◌, ◌≤◌}, lemmas.{Grind.common_steps, List.map-append}}
use Rattle.std.{proofs.lemmas.Option.{slice_get_past, slice_get_read, slice_get_within}, specs.{Borrow.Bor, List.HoldsAt, Option.IfSome}}
use Rattle.std.specs.Option.{MatchOption, option_copied}
use Rattle.bq_job.specs.machine.{SeatRecord, empty_seat, numbers, seat_with}
use Rattle.bq_state.{proofs.PartsLemmas.{none_passed, place_from, seat_read, seat_there}, specs.SeatChanges.AreNumbered}

-- the seat at the place of a number is the seat with that number, if there is one
pub place_is_seat : (seats : List SeatRecord) (i : ℕ) → AreNumbered seats → slice_get seats i ≡ seat_with i seats
place_is_seat seats i h = place_from 0 i i seats (omega arith) h

-- the result of a lookup at that place
pub found_there : (seats : List SeatRecord) (i : ℕ) (found : Option (Bor SeatRecord)) → AreNumbered seats
    → IfSome found (λ s. s.now ≡ get_or seats i s.now)
    → MatchOption found (length seats ≤ i) (λ s. (i < length seats) × HoldsAt (λ y. s.now ≡ y) seats i)
    → option_copied found ≡ seat_with i seats
found_there seats i None h read there = sym (slice_get_past seats i there) ∙ place_is_seat seats i h
found_there seats i (Some s) h read there = sym (slice_get_read seats (length seats) i s.now refl there.0 read) ∙ place_is_seat seats i h

-- if no seat has the number, a change of it changes no seat
pub none_there : (seats : List SeatRecord) (i : ℕ) (f : SeatRecord → SeatRecord) → AreNumbered seats → length seats ≤ i
    → map (λ s. if s.number == i then f s else s) seats ≡ seats
none_there seats i f h less = none_passed _ f seats (sym (place_is_seat seats i h) ∙ slice_get_past seats i less)

numbers_more : (low n : ℕ) → numbers low (suc n) ≡ numbers low n ++ (low + n) ∷ []
numbers_more low zero = ap (λ k. k ∷ []) (omega arith)
numbers_more low (suc n) = ap (λ ns. low ∷ ns) (numbers_more (suc low) n ∙ ap (λ k. numbers (suc low) n ++ k ∷ []) (omega arith))

pub places_more : (n : ℕ) → map empty_seat (numbers 0 (n + 1)) ≡ map empty_seat (numbers 0 n) ++ empty_seat n ∷ []
places_more n = grind (arith, numbers_more, map-append)

-- facts about the seat at a place
pub ruleset at_seats = (common_steps, slice_get_within, seat_there, seat_read)
