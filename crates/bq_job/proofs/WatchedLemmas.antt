-- The tubes that a seat watches, at least one and none twice, after a watch and an ignore.
use Rattle.std.proofs.Common.{rules}
use Rattle.std.proofs.lemmas.Bool.{and_parts, both_ways, false_from_ne_true, or_from, or_parts}
use Rattle.std.proofs.Common.{◌++◌, ◌∷◌, ◌≡◌, Bool, List, [], ℕ, arith, false, refl, true}
use Rattle.std.proofs.lemmas.{Bool.not-true, Grind.common_steps, List.Folds.list_any-append}
use Rattle.std.specs.{List.list_any, Prelude.filter}
use Rattle.bq_job.specs.{beside.{none_twice}}
use Rattle.bq_job.specs.reading.TubeName.{is_same_name}
use Rattle.bq_job.proofs.ListLemmas.{all_of_filter, all_weaker, list_any_not, none_pass}

same_other : (a b : List ℕ) → is_same_name a b ≡ false → is_same_name b a ≡ false
same_other a b e = search (rules, false_from_ne_true, both_ways)

pub none_twice_behind : (tube : List ℕ) (names : List (List ℕ)) → list_any (is_same_name tube) names ≡ false → none_twice names ≡ true
    → none_twice (names ++ tube ∷ []) ≡ true
none_twice_behind tube [] e h = refl
none_twice_behind tube (name ∷ names) e h =
    grind (arith, common_steps, or_parts, and_parts, list_any-append, or_from, not-true, same_other, none_twice_behind tube names)

pub none_twice_filter : (p : List ℕ → Bool) (names : List (List ℕ)) → none_twice names ≡ true → none_twice (filter p names) ≡ true
none_twice_filter p [] h = refl
none_twice_filter p (name ∷ names) h =
    grind (arith, and_parts, list_any_not, all_weaker, all_of_filter, none_pass, not-true, none_twice_filter p names)
