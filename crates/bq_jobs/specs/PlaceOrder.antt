-- The order of places, and lists of them in it.
use Rattle.std.specs.Prelude.{ℕ, ◌+◌, ◌*◌, ◌≤◌, if◌then◌else◌, length, List, Option, Some, None}
use Rattle.std.specs.declared.cmp.Ordering.{Ordering}
use Rattle.std.specs.Cmp.{IsTotalOrder, nat_cmp_total, on_total, then_total}
use Rattle.std.specs.Ordering.{is_eq, nat_cmp, on, then_cmp}
use Rattle.std.specs.Option.{option_and_then}
use Rattle.std.specs.Map.{lookup, remove_entry}
use Rattle.std.specs.BTreeMap.{is_at, insert_entry}
use Rattle.bq_index.specs.Digits.{binary_digits}
use Rattle.bq_index.specs.Order.{entry_from}
use Rattle.bq_index.specs.Shelf.{Seen}
use Rattle.bq_jobs.specs.declared.places.ShelfPlace.{ShelfPlace}

-- by number, then by id
abbrev pub numbers_cmp : {G : Type 0} → ShelfPlace G → ShelfPlace G → Ordering
numbers_cmp = then_cmp (on (λ p. p.at) nat_cmp) (on (λ p. p.id) nat_cmp)

-- the number and the id of a place
abbrev pub rank_of : {G : Type 0} → ShelfPlace G → ℕ × ℕ
rank_of p = (p.at, p.id)

module _ {G : Type 0} (compare : G → G → Ordering) where
  -- by group, then by number, then by id
  abbrev pub place_cmp : ShelfPlace G → ShelfPlace G → Ordering
  place_cmp = then_cmp (on (λ p. p.group) compare) numbers_cmp

  -- the lowest place that a group can have
  abbrev pub front : G → ShelfPlace G
  front group = record { at = 0; id = 0; group = group }

  abbrev pub rank_in_group : G → ShelfPlace G × Unit {0} → Option (ℕ × ℕ)
  rank_in_group group e = if is_eq (compare group e.0.group) then Some (e.0.at, e.0.id) else None

  -- the number and the id at the first place of the group
  abbrev pub first_rank : G → List (ShelfPlace G × Unit {0}) → Option (ℕ × ℕ)
  first_rank group es = option_and_then (rank_in_group group) (entry_from (place_cmp (front group)) es)

  abbrev pub holds_place : ShelfPlace G → List (ShelfPlace G × Unit {0}) → Option (Unit {0})
  holds_place p es = lookup (is_at (place_cmp p)) es

  abbrev pub with_place : Option (ShelfPlace G) → List (ShelfPlace G × Unit {0}) → List (ShelfPlace G × Unit {0})
  with_place None es = es
  with_place (Some p) es = insert_entry place_cmp es p tt

  abbrev pub without_place : Option (ShelfPlace G) → List (ShelfPlace G × Unit {0}) → List (ShelfPlace G × Unit {0})
  without_place None es = es
  without_place (Some p) es = remove_entry (is_at (place_cmp p)) es

-- if the groups are totally ordered, so are the places
pub place_total : {G : Type 0} {compare : G → G → Ordering} → IsTotalOrder compare → IsTotalOrder (place_cmp compare)
place_total o =
    then_total (on_total (λ p. p.group) o) (then_total (on_total (λ p. p.at) nat_cmp_total) (on_total (λ p. p.id) nat_cmp_total))

-- the comparisons of two searches in an order that does not grow
abbrev pub ComparesTwice : {G : Type 0} → Seen (ShelfPlace G) (Unit {0}) → Seen (ShelfPlace G) (Unit {0}) → Type 0
ComparesTwice old new =
    (old.comparisons ≤ new.comparisons) × (new.comparisons ≤ old.comparisons + 4 * binary_digits (length old.entries + 1))
