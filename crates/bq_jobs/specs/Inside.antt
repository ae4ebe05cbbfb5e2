-- How the jobs are kept: the records by id, and the ids alone in two more orders.
use Rattle.std.specs.Prelude.{◌≡◌, ℕ, Bool, false, ◌+◌, ◌^◌, ◌≤◌, min, List, [], Option, Some, None, map, length, is_some, count_by}
use Rattle.std.specs.declared.cmp.Ordering.{Ordering}
use Rattle.std.specs.Ordering.{is_eq}
use Rattle.bq_index.specs.Order.{InOrder}
use Rattle.bq_index.specs.Shelf.{Seen}
use Rattle.bq_job.specs.declared.job.Job.{Job}
use Rattle.bq_job.specs.machine.Changes.{job_with}
use Rattle.bq_job.specs.beside.Lawful.{AreIdsWithin}
use Rattle.bq_job.specs.machine.Limits.{greatest}
use Rattle.bq_jobs.specs.declared.places.Holder.{Holder}
use Rattle.bq_jobs.specs.declared.places.ShelfPlace.{ShelfPlace}
use Rattle.bq_jobs.specs.declared.places.Timer.{Timer}
use Rattle.bq_jobs.specs.JobsSeen.{JobsSeen}
use Rattle.bq_jobs.specs.PlaceOrder.{place_cmp, holds_place}
use Rattle.bq_jobs.specs.Places.{group_place, timer_place}

abbrev pub ById : Type 0
ById = Seen ℕ Job

abbrev pub Order : Type 0 → Type 0
Order G = Seen (ShelfPlace G) (Unit {0})

abbrev pub jobs_of : List (ℕ × Job) → List Job
jobs_of es = map (λ e. e.1) es

abbrev pub with_id : Job → ℕ × Job
with_id j = (j.id, j)

abbrev pub seen_in : ById → Order Holder → Order Timer → JobsSeen
seen_in by_id groups timers = record {
  jobs = jobs_of by_id.entries;
  room = by_id.spare;
  comparisons = min (by_id.comparisons + groups.comparisons + timers.comparisons) greatest;
  tubes = [];
}

-- whether this is the job's place
abbrev pub is_place : {G : Type 0} → (G → G → Ordering) → ShelfPlace G → Option (ShelfPlace G) → Bool
is_place compare p None = false
is_place compare p (Some q) = is_eq (place_cmp compare p q)

abbrev pub has_place : {G : Type 0} → (G → G → Ordering) → (Job → Option (ShelfPlace G)) → ShelfPlace G → Option Job → Bool
has_place compare place_of p None = false
has_place compare place_of p (Some j) = is_place compare p (place_of j)

-- An order has the places of all jobs and no others, ascending, and boxes for the places of the
-- jobs to come.
pub record IsOrderOf {G : Type 0} (compare : G → G → Ordering) (place_of : Job → Option (ShelfPlace G))
    (jobs : List Job) (room : ℕ) (order : Order G) : Type 0 where
  pub places : (p : ShelfPlace G) → is_some (holds_place compare p order.entries) ≡ has_place compare place_of p (job_with p.id jobs)
  pub counted : length order.entries ≡ count_by (λ j. is_some (place_of j)) jobs
  pub roomy : length jobs + room ≤ length order.entries + order.spare
  pub sorted : InOrder (place_cmp compare) order.entries

-- The jobs are filed under their own ids, which ascend, and each order has the places of these
-- jobs.
pub record IsShelved (group_cmp : Holder → Holder → Ordering) (timer_cmp : Timer → Timer → Ordering)
    (by_id : ById) (groups : Order Holder) (timers : Order Timer) : Type 0 where
  pub by_own_id : by_id.entries ≡ map with_id (jobs_of by_id.entries)
  pub ids : AreIdsWithin 0 (jobs_of by_id.entries) (2 ^ 64)
  pub in_groups : IsOrderOf group_cmp group_place (jobs_of by_id.entries) by_id.spare groups
  pub in_timers : IsOrderOf timer_cmp timer_place (jobs_of by_id.entries) by_id.spare timers
