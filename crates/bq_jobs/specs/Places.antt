-- The place of a job in each order.
use Rattle.std.specs.Prelude.{ℕ, List, Option, Some, None}
use Rattle.bq_job.specs.declared.job.Job.{Job}
use Rattle.bq_job.specs.declared.job.JobState.{JobState}
use Rattle.bq_job.specs.declared.job.JobState.TheVariants as states
use Rattle.bq_jobs.specs.declared.places.Holder.{Holder}
use Rattle.bq_jobs.specs.declared.places.Holder.TheVariants as holders
use Rattle.bq_jobs.specs.declared.places.JobList.{JobList}
use Rattle.bq_jobs.specs.declared.places.JobList.TheVariants as lists
use Rattle.bq_jobs.specs.declared.places.ShelfPlace.{ShelfPlace}
use Rattle.bq_jobs.specs.declared.places.Timer.{Timer}
use Rattle.bq_jobs.specs.declared.places.Timer.TheVariants as timers

abbrev pub placed : {G : Type 0} → G → ℕ → ℕ → Option (ShelfPlace G)
placed group at id = Some (record { at = at; id = id; group = group })

abbrev pub list_of : List ℕ → JobList → Holder
list_of tube list = holders.Listed (record { list = list; tube = tube })

abbrev pub held_by : ℕ → Holder
held_by seat = holders.Held seat

-- its place among the ready, delayed or buried jobs of its tube, or among the leases of its holder
abbrev pub in_groups_at : JobState → ℕ → List ℕ → ℕ → Option (ShelfPlace Holder)
in_groups_at states.Ready pri tube id = placed (list_of tube lists.Ready) pri id
in_groups_at (states.Delayed due) pri tube id = placed (list_of tube lists.Delayed) due id
in_groups_at (states.Reserved seat deadline) pri tube id = placed (held_by seat) deadline id
in_groups_at (states.Buried number) pri tube id = placed (list_of tube lists.Buried) number id

abbrev pub in_groups : JobState → Job → Option (ShelfPlace Holder)
in_groups state j = in_groups_at state j.pri j.tube j.id

abbrev pub group_place : Job → Option (ShelfPlace Holder)
group_place j = in_groups j.state j

-- its place among the delays or the leases
abbrev pub in_timers_at : JobState → ℕ → Option (ShelfPlace Timer)
in_timers_at (states.Delayed due) id = placed timers.Delay due id
in_timers_at (states.Reserved seat deadline) id = placed timers.Lease deadline id
in_timers_at _ id = None

abbrev pub in_timers : JobState → Job → Option (ShelfPlace Timer)
in_timers state j = in_timers_at state j.id

abbrev pub timer_place : Job → Option (ShelfPlace Timer)
timer_place j = in_timers j.state j
