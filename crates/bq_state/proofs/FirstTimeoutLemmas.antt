-- The first timeout of a waiting client, as seats change.
use Rattle.std.proofs.Common.{List, None, Option, Some, [], ap, arith, length, map, refl, set, slice_get, sym, true, ℕ, ◌||◌, ◌==◌, ◌∙◌}
use Rattle.std.proofs.Common.{◌∷◌, ◌≡◌}
use Rattle.std.{proofs.{Math.Bool.or-false, lemmas.{Bool.cases_Bool, Grind.common_steps}}, specs.List.{AllByRecursion as All, list_any}}
use Rattle.std.specs.Prelude.{fold}
use Rattle.bq_job.{proofs.{KeptLemmas.only_seat, ListLemmas.{all_always, all_both, all_of_map, all_weaker}}, specs.machine.SeatRecord}
use Rattle.bq_job.specs.machine.{empty_seat, seat_with, watching}
use Rattle.bq_state.{proofs.PartsLemmas.{changed_there, none_passed}, specs.Dues.{earlier_of_both, is_end_over, with_seat_due}}
use Rattle.bq_state.specs.{EndingWaits.has_waited, FirstTimeouts.{AreTimeouts, IsThere, gives_up_at, keeps_timeout, timeout_after}}
use Rattle.bq_state.specs.{SeatChanges.{AreNumbered, seat_changed, seat_changed_at}, declared.known.first_timeout.FirstTimeout.FirstTimeout}
use Rattle.bq_state.specs.declared.{known.first_timeout.FirstTimeout.TheVariants.{Known, Unknown}, seats.SeatChange.SeatChange}

-- a change of seats that keeps when their waits time out, and who can still send
abbrev KeepsTimeout : (SeatRecord → SeatRecord) → SeatRecord → Type 0
KeepsTimeout g s = (gives_up_at (g s) ≡ gives_up_at s) × (IsThere s → IsThere (g s))

fold_kept : (g : SeatRecord → SeatRecord) (best : Option ℕ) (seats : List SeatRecord) → All (KeepsTimeout g) seats
    → fold with_seat_due best (map g seats) ≡ fold with_seat_due best seats
fold_kept g best [] same = refl
fold_kept g best (s ∷ seats) same = grind (arith, fold_kept g (earlier_of_both best (gives_up_at (g s))) seats same.1)

timeouts_kept : (g : SeatRecord → SeatRecord) (first : FirstTimeout) (seats : List SeatRecord) → All (KeepsTimeout g) seats
    → AreTimeouts first seats → AreTimeouts first (map g seats)
timeouts_kept g Unknown seats same known = tt
timeouts_kept g (Known at) seats same known =
    (fold_kept _ _ _ same ∙ known.0, all_of_map _ _ _ (all_weaker _ _ _ (λ s k. k.0.1 k.1) (all_both _ _ _ same known.1)))

-- a change of one seat
pub timeouts_of_seat : (number : ℕ) (what : SeatChange) (first : FirstTimeout) (seats : List SeatRecord) → AreNumbered seats
    → AreTimeouts first seats → AreTimeouts (timeout_after what (seat_with number seats) first) (map (seat_changed_at number what) seats)
timeouts_of_seat number what first seats numbered known =
    let kept : (s : SeatRecord) → seat_with number seats ≡ Some s → keeps_timeout what s ≡ true
    → AreTimeouts first (map (seat_changed_at number what) seats) = λ s e keeps. grind
    (arith, common_steps, cases_Bool, timeouts_kept, all_weaker, only_seat 0 (length seats) number seats s numbered e) in
    grind (arith, common_steps, none_passed (λ (s : SeatRecord). s.number == number) (seat_changed what) seats)

-- a client watches other tubes
pub timeouts_watching : (names : List (List ℕ)) (i : ℕ) (s : SeatRecord) (first : FirstTimeout) (seats : List SeatRecord)
    → AreNumbered seats → slice_get seats i ≡ Some s → AreTimeouts first seats → AreTimeouts first (set seats i (watching names s))
timeouts_watching names i s first seats numbered here known =
    grind (arith, common_steps, changed_there seats i s (watching names), timeouts_kept, all_always)

-- whether the first of some moments has come
over_all : (moment : ℕ) (best : Option ℕ) (seats : List SeatRecord) → All IsThere seats
    → is_end_over moment (fold with_seat_due best seats) ≡ (is_end_over moment best || list_any (has_waited moment) seats)
over_all moment best [] there = sym (or-false (is_end_over moment best))
over_all moment best (s ∷ seats) there = grind (arith, over_all moment (earlier_of_both best (gives_up_at s)) seats there.1)

pub over_known : (moment : ℕ) (first : Option ℕ) (seats : List SeatRecord) → AreTimeouts (Known first) seats
    → is_end_over moment first ≡ list_any (has_waited moment) seats
over_known moment first seats known = ap (is_end_over moment) (sym known.0) ∙ over_all moment None seats known.1

-- at the start no client waits
pub first_timeouts : (ns : List ℕ) → AreTimeouts (Known None) (map empty_seat ns)
first_timeouts [] = (refl, tt)
first_timeouts (n ∷ ns) = search (first_timeouts ns)
