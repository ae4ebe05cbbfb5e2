-- Properties that hold for each element of a list, when one element is added.
use Rattle.std.proofs.Common.{◌≡◌, zero, suc, Bool, true, false, List, [], ◌∷◌, ◌++◌, subst, sym, arith}
use Rattle.std.specs.Prelude.{if◌then◌else◌}
use Rattle.std.specs.List.{All}

one_more : {X : Type 0} (P : X → Type 0) (xs : List X) (x : X) → All P xs → P x → All P (xs ++ x ∷ [])
one_more P [] x h p zero d below = p
one_more P [] x h p (suc k) d below = absurd (omega arith)
one_more P (y ∷ xs) x h p zero d below = h 0 d (omega arith)
one_more P (y ∷ xs) x h p (suc k) d below = one_more P xs x (λ j e there. h (suc j) e (omega (arith, there))) p k d (omega (arith, below))

pub all_pushed : {X : Type 0} (xs ys : List X) (x : X) (P : X → Type 0) → ys ≡ xs ++ x ∷ [] → All P xs → P x → All P ys
all_pushed xs ys x P e h p = subst (All P) (sym e) (one_more P xs x h p)

-- The same if the list may have had no room.
pub all_pushed_if : {X : Type 0} (pushed : Bool) (xs ys : List X) (x : X) (P : X → Type 0) → ys ≡ (if pushed then xs ++ x ∷ [] else xs)
    → All P xs → P x → All P ys
all_pushed_if true xs ys x P e h p = all_pushed xs ys x P e h p
all_pushed_if false xs ys x P e h p = subst (All P) (sym e) h
