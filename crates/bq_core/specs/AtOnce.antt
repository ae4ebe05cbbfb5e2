-- A command's own effect, and the job that a reserve is given at once.
use Rattle.std.specs.{Option.option_map, Prelude.{Bool, List, None, Option, Some, false, fold, length, true, ℕ, ◌&&◌, ◌*◌, ◌+◌, ◌≡◌}}
use Rattle.bq_core.specs.{Acting.Acts, Turns.Gives}
use Rattle.bq_core_api.specs.{Cost.changed_jobs, Outbox.Outbox}
use Rattle.bq_job.specs.{declared.{request.Request.Request, step.Step.Step}, machine.{DispatchTurn, forgetting, has_refused_share, raised}}
use Rattle.bq_job.specs.machine.{Machine.Machine, job_with, reserved_by, seat_with, waiting_from, with_job, with_seat}
use Rattle.bq_jobs.specs.{JobsSeen.JobsSeen, Searching.Asks, Seen.IsBodyOf}
use Rattle.bq_state.specs.{Asking.AsksWithin, CoreParts.{AtSeat, machine_of}, Cost.waited, Offers.with_offer, SeatStates.is_asking}
use Rattle.bq_state.specs.{TubesSeen.records, WantedJobs.is_nothing}
use Rattle.bq_state.specs.declared.core_parts.CoreParts.{CoreParts}
use Rattle.bq_job.specs.declared.request.Request.TheVariants as requests
use Rattle.bq_job.specs.declared.step.Step.TheVariants as steps

abbrev pub is_reserve_request : Request → Bool
is_reserve_request requests.Reserve = true
is_reserve_request (requests.ReserveWithTimeout seconds) = true
is_reserve_request request = false

abbrev pub is_reserve : Step → Bool
is_reserve (steps.Ask request) = is_reserve_request request
is_reserve what = false

-- the step is a reserve of a client that can ask, and no waiting client may have a job
abbrev pub may_take : ℕ → Step → CoreParts → Bool
may_take seat what st = is_reserve what && (is_nothing st.known.wanted && is_asking (seat_with seat st.seats.items))

-- The client at this seat, which reserves, was handed this job, which its tubes offer.
pub record TakesAtOnce (seat : ℕ) (what : Step) (id : ℕ) (body : List ℕ) (old new : CoreParts) : Type 0 where
  pub may : may_take seat what old ≡ true
  pub job : AtSeat seat old (λ s. Some id ≡ option_map (λ r. r.1)
      (fold (with_offer old.store.jobs.jobs (records old.store.tubes)) None s.watched))
  pub body_is : IsBodyOf (job_with id (machine_of old).jobs) body
  pub after : machine_of new ≡ record (with_job id (reserved_by old.moment seat) (machine_of old)) { tickets = raised old.tickets }
  pub asks : AtSeat seat old (λ s. Asks (length s.watched + 7) old.store.jobs new.store.jobs)

-- the model once the client at this seat waits, with the next ticket
abbrev pub waiting_at : ℕ → Option ℕ → Machine → Machine
waiting_at seat until m = record (with_seat seat (waiting_from (raised m.tickets) until) m) { tickets = raised m.tickets }

-- what is kept of the jobs of this model, with this count of comparisons
abbrev pub kept_at : Machine → ℕ → JobsSeen → JobsSeen
kept_at m comparisons k = record k { jobs = m.jobs; comparisons = comparisons }

-- The command's own effect was carried out and tubes were forgotten. Then dispatch took some turns: one if a client
-- reserved and was given a job at once, and otherwise none.
pub record ActsOrGives (m : Machine) (seat : ℕ) (what : Step) (old new : Outbox) (last : Machine) (before after : JobsSeen) : Type 0 where
  pub acted_machine : Machine
  pub left : Machine
  pub told : Outbox
  pub comparisons : ℕ
  pub acts : Acts m seat what old told acted_machine
  pub forgotten : left ≡ forgetting acted_machine
  pub turns : Gives DispatchTurn has_refused_share left last told new
  pub asks : AsksWithin (9 * changed_jobs before.jobs left.jobs + 20) before (kept_at left comparisons before)
  pub asks_then : Asks (length turns.given * (waited left + 9)) (kept_at left comparisons before) after
