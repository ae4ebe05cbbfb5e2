-- The first place of a group, among the places of its part.
use Rattle.std.proofs.lemmas.Grind.{common_steps}
use Rattle.std.proofs.Common.{◌≡◌, ◌∙◌, ℕ, List, Option, Some, arith}
use Rattle.std.specs.Option.{option_and_then}
use Rattle.bq_index.specs.Shelves.{key_from, of_part}
use Rattle.bq_jobs.specs.declared.places.Holder.{Holder}
use Rattle.bq_jobs.specs.declared.places.ShelfPlace.{ShelfPlace}
use Rattle.bq_jobs.specs.Groups.{group_cmp}
use Rattle.bq_jobs.specs.PlaceOrder.{first_rank, front, place_cmp, rank_in_group}
use Rattle.bq_jobs.specs.PlaceParts.{part_of}

-- A place of another part has no rank in the group.
pub rank_of_part : (g : Holder) (f : ShelfPlace Holder) (es : List (ShelfPlace Holder × Unit {0})) (o : Option (ShelfPlace Holder))
    → f ≡ front group_cmp g → o ≡ of_part part_of (part_of f) (key_from (place_cmp group_cmp f) es)
    → option_and_then (λ p. rank_in_group group_cmp g (p, tt)) o ≡ first_rank group_cmp g es
rank_of_part g f es o is own = grind (arith, common_steps)

pub rank_of_place : (g : Holder) (f : ShelfPlace Holder) (es : List (ShelfPlace Holder × Unit {0})) (p : ShelfPlace Holder)
    (r : Option (ℕ × ℕ)) → f ≡ front group_cmp g → Some p ≡ of_part part_of (part_of f) (key_from (place_cmp group_cmp f) es)
    → r ≡ rank_in_group group_cmp g (p, tt) → r ≡ first_rank group_cmp g es
rank_of_place g f es p r is own told = told ∙ rank_of_part g f es (Some p) is own
