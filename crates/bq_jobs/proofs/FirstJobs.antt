-- The first job of each kind is at the first place of a group.
use Rattle.std.proofs.lemmas.Bool.{cases_Bool}
use Rattle.std.proofs.Common.{◌≡◌, ◌^◌, true, List, Some, rules, arith}
use Rattle.std.specs.Prelude.{option_map}
use Rattle.bq_job.specs.declared.job.Job.{Job}
use Rattle.bq_jobs.specs.contracts.places.GroupOrd.TheImpl.Laws as group_laws
use Rattle.bq_jobs.specs.contracts.places.TimerOrd.TheImpl.Laws as timer_laws
use Rattle.bq_jobs.specs.declared.places.Holder.{Holder}
use Rattle.bq_jobs.specs.declared.places.ShelfPlace.{ShelfPlace}
use Rattle.bq_jobs.specs.declared.places.Timer.{Timer}
use Rattle.bq_jobs.specs.Inside.{ById, IsShelved, Order, jobs_of}
use Rattle.bq_jobs.specs.PlaceOrder.{first_rank}
use Rattle.bq_jobs.specs.Places.{timer_place, group_place}
use Rattle.bq_jobs.specs.Ranks.{first_by, first_held, first_timed, id_in, is_of, is_timed, moment_of, rank_of}
use Rattle.bq_jobs.proofs.FirstOfGroup.{in_group, rank_is}
use Rattle.bq_jobs.proofs.Firsts.{group_cmp, timer_cmp, group_own, timer_own, list_ties, other_list}

-- a job passes the test of a group exactly if its place is in the group
grouped : (g : Holder) (j : Job) → is_of g j ≡ in_group group_cmp g (group_place j)
grouped g j = search (rules, cases_Bool, list_ties, other_list)

-- the number that orders the jobs of a group is that of the place
numbered : (g : Holder) (j : Job) (p : ShelfPlace Holder) → group_place j ≡ Some p → is_of g j ≡ true → p.at ≡ rank_of g j
numbered g j p e h = grind arith

timed : (t : Timer) (j : Job) → is_timed t j ≡ in_group timer_cmp t (timer_place j)
timed t j = grind arith

timed_numbered : (t : Timer) (j : Job) (p : ShelfPlace Timer) → timer_place j ≡ Some p → is_timed t j ≡ true → p.at ≡ moment_of t j
timed_numbered t j p e h = grind arith

module _ (by_id : ById) (groups : Order Holder) (timers : Order Timer) (h : IsShelved group_cmp timer_cmp by_id groups timers) where
  pub group_first : (g : Holder) → first_rank group_cmp g groups.entries ≡ first_held g (jobs_of by_id.entries)
  unfolding first_held
  group_first g =
      rank_is group_laws.total-law g group_place group_own (is_of g) (rank_of g) (grouped g) (numbered g)
      0 (2 ^ 64) (jobs_of by_id.entries) by_id.spare groups h.in_groups h.ids h.in_groups.sorted

  pub timer_first : (t : Timer) → first_rank timer_cmp t timers.entries ≡ first_timed t (jobs_of by_id.entries)
  unfolding first_timed
  timer_first t =
      rank_is timer_laws.total-law t timer_place timer_own (is_timed t) (moment_of t) (timed t) (timed_numbered t)
      0 (2 ^ 64) (jobs_of by_id.entries) by_id.spare timers h.in_timers h.ids h.in_timers.sorted

pub held_id : (g : Holder) (jobs : List Job) → id_in (first_held g jobs) ≡ option_map (λ j. j.id) (first_by (is_of g) (rank_of g) jobs)
unfolding first_held id_in
held_id g jobs = grind arith

pub timed_id : (t : Timer) (jobs : List Job)
    → id_in (first_timed t jobs) ≡ option_map (λ j. j.id) (first_by (is_timed t) (moment_of t) jobs)
unfolding first_timed id_in
timed_id t jobs = grind arith
