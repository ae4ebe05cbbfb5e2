-- What holds of whole runs.
use Rattle.std.specs.Prelude.{ℕ, Bool, true, false, ◌≡◌, ◌==◌, ◌⊎◌, IsTrue, not, List, [], ◌∷◌, ◌++◌, Contains, Option}
use Rattle.std.specs.List.{list_any}
use Rattle.bq_job.specs.machine.{Chain, DispatchTurn, GivenAnswer, Machine.Machine, Settings}
use Rattle.bq_job.specs.machine.{acted, addressed, after_timers, at_moment, forgetting}
use Rattle.bq_job.specs.{laws.LeastJob.GetsLeast, machine.{is_connected_at, is_held_by, is_reserved}}
use Rattle.bq_job.specs.{promise.{Entry, IsRun, Transition}, Types.{Answer, Job}}
use Rattle.bq_job.specs.declared.answer.Answer.TheVariants as answers
use Rattle.bq_job.specs.declared.request.Request.TheVariants as requests
use Rattle.bq_job.specs.declared.step.Step.TheVariants as steps

-- The client gets the job as the answer to its own reserve-job.
pub record IsReservedById (t : Transition) (early : List GivenAnswer) (seat id : ℕ) : Type 0 where
  pub asks : t.entry.what ≡ steps.Ask (requests.ReserveJob id)
  pub by : t.entry.seat ≡ seat
  pub place : early ≡ t.parts.handed ++ t.parts.ended

-- Dispatch, which starts at `first` after the answers `before` and gives the answers `handed`,
-- gives the job to the client. It is the least job that the client may have at that moment.
pub record IsDispatchedLeast (first : Machine) (before handed early : List GivenAnswer) (seat id : ℕ) (body : List ℕ) : Type 0 where
  pub given : List GivenAnswer
  pub more : List GivenAnswer
  pub place : early ≡ before ++ given
  pub handed_is : handed ≡ given ++ (seat, answers.Reserved id body) ∷ more
  pub moment : Machine
  pub turns : Chain DispatchTurn first given moment
  pub least : GetsLeast moment seat id body

-- the answers of a step before its second dispatch
abbrev pub answers_before : Transition → List GivenAnswer
answers_before t =
    t.parts.handed ++ t.parts.ended ++ addressed t.entry.seat (acted t.parts.memory t.parts.before t.entry.seat t.entry.what).answer

-- Each RESERVED among the answers of the step is the answer to a reserve-job, or the first or the
-- second dispatch gave the client the least job that it could have.
abbrev pub GivesLeast : Transition → Type 0
GivesLeast t = (early more : List GivenAnswer) (seat id : ℕ) (body : List ℕ) → t.given ≡ early ++ (seat, answers.Reserved id body) ∷ more
    → IsReservedById t early seat id
    ⊎ IsDispatchedLeast (forgetting (after_timers (at_moment t.entry.moment t.first))) [] t.parts.handed early seat id body
    ⊎ IsDispatchedLeast t.parts.after (answers_before t) t.parts.handed_then early seat id body

abbrev pub is_inserted : Answer → Bool
is_inserted (answers.Inserted id) = true
is_inserted _ = false

abbrev pub has_inserted : List GivenAnswer → Bool
has_inserted given = list_any (λ g. is_inserted g.1) given

-- There is exactly one job with this id, and it has the tube and the body of `j`.
pub record IsKept (j : Job) (m : Machine) : Type 0 where
  pub job : Job
  pub there : Contains m.jobs job
  pub id_is : job.id ≡ j.id
  pub tube_is : job.tube ≡ j.tube
  pub body_is : job.body ≡ j.body
  pub alone : (k : Job) → Contains m.jobs k → k.id ≡ j.id → k ≡ job

-- The client at the seat holds the job with this id.
abbrev pub Holds : Machine → ℕ → ℕ → Type 0
Holds m seat id = (j : Job) × Contains m.jobs j × (j.id ≡ id) × IsTrue (is_held_by seat j)

-- At most one client holds a job, and that client is connected.
abbrev pub IsHeldByOne : Machine → Type 0
IsHeldByOne m = (seat other id : ℕ) → Holds m seat id → Holds m other id → (seat ≡ other) × IsTrue (is_connected_at seat m)

-- DELETED goes only to the client that asked for it. The job existed, was held by no client or by
-- this one, and is gone.
pub record IsDeletion (t : Transition) (seat : ℕ) : Type 0 where
  pub id : ℕ
  pub job : Job
  pub asks : t.entry.what ≡ steps.Ask (requests.Delete id)
  pub by : t.entry.seat ≡ seat
  pub there : Contains t.parts.before.jobs job
  pub id_is : job.id ≡ id
  pub free : (is_reserved job.state ≡ false) ⊎ (is_held_by seat job ≡ true)
  pub gone : (k : Job) → Contains t.parts.after.jobs k → not (k.id == id) ≡ true

-- The first entries of a run are a run, which gives the first of its answers.
pub record RunBegins (settings : Settings) (readings : List (Option ℕ)) (early : List Entry) (given : List GivenAnswer) : Type 0 where
  pub early_given : List GivenAnswer
  pub later_given : List GivenAnswer
  pub machine : Machine
  pub run : IsRun settings readings early early_given machine
  pub given_is : given ≡ early_given ++ later_given
