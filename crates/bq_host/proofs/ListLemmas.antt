-- Properties that hold for each element of a list, as elements are added and taken.
use Rattle.std.proofs.Common.{◌≡◌, ℕ, List, [], ◌∷◌, ◌++◌, Some, subst, sym, take, arith, append-nil, length}
use Rattle.std.specs.List.{All, AllZip}
use Rattle.std.specs.Option.{option_to_list}
use Rattle.std.proofs.lemmas.List.Elements.{All-head, All-pop, All-push, All-rest, All-take}

pub all_pushed : {X : Type 0} (xs ys : List X) (x : X) (P : X → Type 0) → ys ≡ xs ++ x ∷ [] → All P xs → P x → All P ys
all_pushed xs ys x P e h p = subst (All P) (sym e) (All-push P xs x h p)

pub all_taken : {X : Type 0} (n : ℕ) (xs ys : List X) (P : X → Type 0) → ys ≡ take n xs → All P xs → All P ys
all_taken n xs ys P e h = subst (All P) (sym e) (All-take P n xs h)

pub popped_passes : {X : Type 0} (xs ys : List X) (x : X) (P : X → Type 0) → xs ≡ ys ++ option_to_list (Some x) → All P xs → P x
popped_passes xs ys x P e h = (All-pop P xs ys (Some x) e h).1

pub first_passes : {X : Type 0} (xs ys : List X) (x : X) (P : X → Type 0) → xs ≡ x ∷ ys → All P xs → P x
first_passes xs ys x P e h = All-head P x ys (subst (All P) e h)

pub rest_passes : {X : Type 0} (xs ys : List X) (x : X) (P : X → Type 0) → xs ≡ x ∷ ys → All P xs → All P ys
rest_passes xs ys x P e h = All-rest P x ys xs e h

-- R holds place by place for two lists: `all`, and `done` followed by any elements for which it holds
-- with the rest of `all`.
abbrev pub IsAlong : {X Y : Type 0} → (X → Y → Type 0) → List X → List X → List Y → Type 0
IsAlong {X} {Y} R all rest done = (more : List Y) → AllZip R rest more → AllZip R all (done ++ more)

pub along_all : {X Y : Type 0} (R : X → Y → Type 0) (all rest : List X) (done : List Y) → length rest ≡ 0 → IsAlong R all rest done
    → AllZip R all done
along_all R all [] done none h = subst (AllZip R all) (append-nil done) (h [] tt)
along_all R all (x ∷ rest) done none h = absurd (omega (arith, none))
