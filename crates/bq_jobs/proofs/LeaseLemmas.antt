-- The first lease after a place is added or removed.
use Rattle.std.proofs.Common.{◌≡◌, ℕ, List, [], ◌∷◌, Option, Some, None, arith, refl, rules}
use Rattle.std.specs.Prelude.{if◌then◌else◌}
use Rattle.std.specs.declared.cmp.Ordering.{Ordering}
use Rattle.std.specs.Map.{remove_entry}
use Rattle.std.specs.BTreeMap.{is_at, insert_entry}
use Rattle.std.proofs.lemmas.Bool.{cases_Bool}
use Rattle.bq_job.specs.machine.Changes.{is_pair_before}
use Rattle.bq_jobs.specs.declared.places.ShelfPlace.{ShelfPlace}
use Rattle.bq_jobs.specs.declared.places.Timer.{Timer}
use Rattle.bq_jobs.specs.declared.places.Timer.TheVariants.{Delay, Lease}
use Rattle.bq_jobs.specs.declared.timers.FirstLease.{FirstLease}
use Rattle.bq_jobs.specs.FirstLeases.{IsFirstLease, lease_with, lease_without}
use Rattle.bq_jobs.specs.PlaceOrder.{first_rank, place_cmp, rank_of}
use Rattle.bq_jobs.proofs.Firsts.{timer_cmp}

-- the first lease after a place is added
abbrev first_with : Timer → ℕ × ℕ → Option (ℕ × ℕ) → Option (ℕ × ℕ)
first_with Delay rank known = known
first_with Lease rank None = Some rank
first_with Lease rank (Some other) = Some (if is_pair_before rank.0 rank.1 other.0 other.1 then rank else other)

abbrev place : Timer → ℕ → ℕ → ShelfPlace Timer
place timer at id = record { at = at; id = id; group = timer }

abbrev compare : ShelfPlace Timer → ShelfPlace Timer → Ordering
compare = place_cmp timer_cmp

abbrev first : List (ShelfPlace Timer × Unit {0}) → Option (ℕ × ℕ)
first = first_rank timer_cmp Lease

-- a lease before other places is the first one
lease_first : (at id : ℕ) (es : List (ShelfPlace Timer × Unit {0})) → first ((place Lease at id, tt) ∷ es) ≡ Some (at, id)
lease_first at id es = grind arith

first_entered : (p : ShelfPlace Timer) (es : List (ShelfPlace Timer × Unit {0}))
    → first (insert_entry compare es p tt) ≡ first_with p.group (rank_of p) (first es)
first_entered p [] = grind arith
first_entered p (e ∷ es) = search (rules, cases_Bool, lease_first, first_entered p es)

pub lease_entered : (lease : FirstLease) (p : ShelfPlace Timer) (es : List (ShelfPlace Timer × Unit {0})) → IsFirstLease timer_cmp lease es
    → IsFirstLease timer_cmp (lease_with p.group (rank_of p) lease) (insert_entry compare es p tt)
lease_entered lease p es h = grind (arith, first_entered)

-- a removed delay changes nothing
delay_left : (a i : ℕ) (es : List (ShelfPlace Timer × Unit {0})) → first (remove_entry (is_at (compare (place Delay a i))) es) ≡ first es
delay_left a i [] = refl
delay_left a i (e ∷ es) = grind (arith, delay_left a i es)

-- nor does a removed lease that was not the first one
other_left : (a i : ℕ) (es : List (ShelfPlace Timer × Unit {0})) → (first es ≡ Some (a, i) → ⊥)
    → first (remove_entry (is_at (compare (place Lease a i))) es) ≡ first es
other_left a i [] n = refl
other_left a i (e ∷ es) n = search (rules, cases_Bool, lease_first, other_left a i es)

left_at : (t : Timer) (a i : ℕ) (lease : FirstLease) (es : List (ShelfPlace Timer × Unit {0})) → IsFirstLease timer_cmp lease es
    → IsFirstLease timer_cmp (lease_without t (a, i) lease) (remove_entry (is_at (compare (place t a i))) es)
left_at t a i lease es h = grind (arith, delay_left, other_left)

pub lease_left : (lease : FirstLease) (p : ShelfPlace Timer) (es : List (ShelfPlace Timer × Unit {0})) → IsFirstLease timer_cmp lease es
    → IsFirstLease timer_cmp (lease_without p.group (rank_of p) lease) (remove_entry (is_at (compare p)) es)
lease_left lease p es h = left_at p.group p.at p.id lease es h
