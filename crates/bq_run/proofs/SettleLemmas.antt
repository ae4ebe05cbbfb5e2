-- Ends are compared with the core's one after another.
use Rattle.std.proofs.Common.{◌≡◌, ◌≢◌, ℕ, ◌+◌, ◌<◌, List, length, arith, inl, inr, slice_set, slice_index_or}
use Rattle.std.specs.Prelude.{◌==◌}
use Rattle.std.proofs.lemmas.Bool.{cases_Bool, eqb-false, eqb-true}
use Rattle.std.proofs.lemmas.List.{get_or-set_other, get_or-set_same, get_or_default, length-append, length-set, with_items_is}
use Rattle.bq_link.specs.EndStates.{CoreState, IsPair, SeatState}
use Rattle.bq_run.specs.Linked.{ArePaired, AreStill, IsCoreStill, IsEndStill, IsSettled}
use Rattle.bq_run.specs.declared.run.Run.{Run}
use Rattle.bq_run.specs.declared.run.posts.Ended.{Ended}

-- The ends of a run are those of the seats, and one more that was pushed.
pub ruleset last_pushed = (length-append, with_items_is)

-- An end that was compared stays settled.
settled_on : (core later : CoreState) (place : ℕ) (seat : SeatState) → IsCoreStill core later → IsSettled core place seat
    → IsSettled later place seat
settled_on core later place seat s h = grind arith

-- The next end and the core's are a pair.
pub pair_at : (core later : CoreState) (first ends : List SeatState) (i : ℕ) (x : SeatState) → ArePaired core first → IsCoreStill core later
    → AreStill first ends → i < length ends
    → ((slice_index_or ends i x).number ≡ i) × IsPair later (slice_index_or ends i x)
pair_at core later first ends i x paired c s below = grind arith

-- One more end was compared.
pub still_set : (first ends : List SeatState) (i : ℕ) (x new : SeatState) → i < length ends → AreStill first ends
    → IsEndStill (slice_index_or ends i x) new → AreStill first (slice_set ends i new)
still_set first ends i x new below s e =
    grind (arith, length-set, cases_Bool, eqb-true, get_or-set_same, get_or_default, get_or-set_other, eqb-false)

pub settled_more : (core later : CoreState) (ends : List SeatState) (i : ℕ) (new : SeatState) → i < length ends → IsCoreStill core later
    → ((place : ℕ) (d : SeatState) → place < i → IsSettled core place (slice_index_or ends place d)) → IsSettled later i new
    → (place : ℕ) (d : SeatState) → place < i + 1 → IsSettled later place (slice_index_or (slice_set ends i new) place d)
settled_more core later ends i new below c before here place d less = elim (cases_Bool (place == i)) [
  | inl same ↦ rw (eqb-true place i same, get_or-set_same ends i new d below) here
  | inr other ↦
      let differs : place ≢ i = eqb-false place i other in
      rw (get_or-set_other ends i place new d differs)
      (settled_on core later place (slice_index_or ends place d) c (before place d (omega (arith, less, differs))))
]

-- A property of a run that is built from what the threads returned holds for every run with these
-- parts.
pub same_run : {D C I K : Type 0} (P : Run D C I K → Type 0) (run : Run D C I K) (e : Ended D C I K) → run.doors ≡ e.doors
    → run.clock ≡ e.clock → run.control ≡ e.control → run.core ≡ e.core
    → P (record run { doors = e.doors; clock = e.clock; control = e.control; core = e.core }) → P run
same_run P run e doors clock control core p = grind arith
