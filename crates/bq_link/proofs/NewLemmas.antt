-- The ends, made one after the other.
use Rattle.std.proofs.Common.{◌≡◌, ℕ, ◌+◌, List, [], ◌∷◌, ◌++◌}
use Rattle.std.proofs.Common.{Some, length, refl, slice_get, arith}
use Rattle.std.proofs.lemmas.Grind.{common_steps}
use Rattle.std.proofs.lemmas.List.{get_or_append_left, get_or_push, length-append, replicate_more}
use Rattle.bq_link.specs.EndStates.{CoreState, RingId, SeatState}
use Rattle.bq_link.specs.NewEnds.{AreNewSeats, IsNewCore, next_seat, with_ring}

get_more : {X : Type 0} (xs ys : List X) (n : ℕ) (x : X) → slice_get xs n ≡ Some x → slice_get (xs ++ ys) n ≡ Some x
get_more [] ys n x e = grind (arith, common_steps)
get_more (y ∷ xs) ys n x e = grind (arith, common_steps, get_more xs ys)

get_last : {X : Type 0} (xs : List X) (x : X) → slice_get (xs ++ x ∷ []) (length xs) ≡ Some x
get_last [] x = refl
get_last (y ∷ xs) x = get_last xs x

pub core_more : (n : ℕ) (core next : CoreState) (ring : RingId) → next ≡ with_ring core ring → IsNewCore n core → IsNewCore (n + 1) next
core_more n core next ring is new = grind (arith, common_steps, length-append, replicate_more)

pub seats_more : (n : ℕ) (core next : CoreState) (seat : SeatState) (seats : List SeatState) → next ≡ with_ring core seat.ring
    → seat ≡ next_seat core seat.ring
    → length seats ≡ n → IsNewCore n core → AreNewSeats core seats → AreNewSeats next (seats ++ seat ∷ [])
seats_more n core next seat seats is made many new all place d within =
    grind (arith, common_steps, get_or_append_left, get_more, get_or_push, get_last, length-append)
