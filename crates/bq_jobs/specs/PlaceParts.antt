-- The places of one group lie next to each other, and the groups follow one another by their numbers.
use Rattle.std.specs.Prelude.{◌≡◌, ℕ, ◌<◌}
use Rattle.std.proofs.Common.{arith, refl}
use Rattle.std.proofs.lemmas.Bool.Decides.{nat_tests}
use Rattle.std.specs.Ordering.{nat_cmp}
use Rattle.std.specs.declared.cmp.Ordering.TheVariants.{Less}
use Rattle.bq_jobs.specs.declared.places.Holder.{Holder}
use Rattle.bq_jobs.specs.declared.places.ShelfPlace.{ShelfPlace}
use Rattle.bq_jobs.specs.Groups.{group_cmp, group_number}
use Rattle.bq_jobs.specs.PlaceOrder.{place_cmp}

-- the number of a place's group
abbrev pub part_of : ShelfPlace Holder → ℕ
part_of p = group_number p.group

-- a place of a group with a lower number is lower
pub parts_ascend : (p q : ShelfPlace Holder) → part_of p < part_of q → place_cmp group_cmp p q ≡ Less
parts_ascend p q l = let less : nat_cmp (part_of p) (part_of q) ≡ Less = grind (arith, nat_tests) in rw less refl
