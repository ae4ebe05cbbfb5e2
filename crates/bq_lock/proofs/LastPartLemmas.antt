-- The last parts of lists.
use Rattle.std.proofs.lemmas.Grind.{common_steps}
use Rattle.std.proofs.Common.{◌≡◌, ℕ, ◌-◌, List, [], ◌++◌, drop, take, length, sym, ap, ◌∙◌, arith, append_assoc, append-nil}
use Rattle.std.proofs.lemmas.List.{drop-append-le, take-append-drop}
use Rattle.bq_host.specs.LastParts.{EndsWith, last_part}

-- appending to a last part first, or to the whole list, gives the same last part
pub last_then : {X : Type 0} (n : ℕ) (xs ys : List X) → last_part n (last_part n xs ++ ys) ≡ last_part n (xs ++ ys)
last_then {X} n xs ys =
    let k : ℕ = length xs - n in
    let joined : last_part n xs ++ ys ≡ drop k (xs ++ ys) = sym (drop-append-le k xs ys (omega arith)) in
    grind (arith, common_steps)

pub ends_with_last : {X : Type 0} (n : ℕ) (xs : List X) → EndsWith xs (last_part n xs)
ends_with_last n xs = (take (length xs - n) xs, sym (take-append-drop (length xs - n) xs))

pub ends_with_drop : {X : Type 0} (n : ℕ) (xs : List X) → EndsWith xs (drop n xs)
ends_with_drop n xs = (take n xs, sym (take-append-drop n xs))

pub ends_with_none : {X : Type 0} (xs : List X) → EndsWith xs []
ends_with_none xs = (xs, sym (append-nil xs))

-- A last part of a last part is a last part.
pub ends_with_then : {X : Type 0} (xs part last : List X) → EndsWith xs part → EndsWith part last → EndsWith xs last
ends_with_then xs part last (front, is) (more, then_is) = grind (arith, append_assoc front more last)

pub ends_with_more : {X : Type 0} (xs part ys : List X) → EndsWith xs part → EndsWith (xs ++ ys) (part ++ ys)
ends_with_more xs part ys (front, is) = (front, ap (λ zs. zs ++ ys) is ∙ append_assoc front part ys)
