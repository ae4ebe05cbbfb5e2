-- The first lease, if it is known without a search.
use Rattle.std.specs.Prelude.{◌≡◌, ◌==◌, ◌&&◌, ℕ, Bool, true, false, if◌then◌else◌, List, None, Some}
use Rattle.std.specs.declared.cmp.Ordering.{Ordering}
use Rattle.bq_job.specs.machine.Changes.{is_pair_before}
use Rattle.bq_jobs.specs.declared.places.ShelfPlace.{ShelfPlace}
use Rattle.bq_jobs.specs.declared.places.Timer.{Timer}
use Rattle.bq_jobs.specs.declared.places.Timer.TheVariants.{Delay, Lease}
use Rattle.bq_jobs.specs.declared.timers.FirstLease.{FirstLease}
use Rattle.bq_jobs.specs.declared.timers.FirstLease.TheVariants.{Unknown, Known}
use Rattle.bq_jobs.specs.PlaceOrder.{first_rank}

-- what is known of the first lease among these places is true
abbrev pub IsFirstLease : (Timer → Timer → Ordering) → FirstLease → List (ShelfPlace Timer × Unit {0}) → Type 0
IsFirstLease compare Unknown es = Unit {0}
IsFirstLease compare (Known first) es = first ≡ first_rank compare Lease es

-- whether a place that is added is the first lease, as far as the first lease was known
abbrev pub is_new_first : Timer → ℕ × ℕ → FirstLease → Bool
is_new_first Delay rank lease = false
is_new_first Lease rank Unknown = false
is_new_first Lease rank (Known None) = true
is_new_first Lease rank (Known (Some first)) = is_pair_before rank.0 rank.1 first.0 first.1

-- what is known then
abbrev pub lease_with : Timer → ℕ × ℕ → FirstLease → FirstLease
lease_with timer rank lease = if is_new_first timer rank lease then Known (Some rank) else lease

-- whether a place is the first lease, as far as that is known
abbrev pub is_known_first : Timer → ℕ × ℕ → FirstLease → Bool
is_known_first Delay rank lease = false
is_known_first Lease rank Unknown = false
is_known_first Lease rank (Known None) = false
is_known_first Lease rank (Known (Some first)) = first.0 == rank.0 && first.1 == rank.1

-- what is known after a place is removed
abbrev pub lease_without : Timer → ℕ × ℕ → FirstLease → FirstLease
lease_without timer rank lease = if is_known_first timer rank lease then Unknown else lease
