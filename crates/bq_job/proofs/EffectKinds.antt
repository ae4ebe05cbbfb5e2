-- What a command can do: eight kinds of effect. A fact about all commands is proved once for each
-- kind.
use Rattle.std.proofs.Common.{ℕ, ◌≡◌, ◌≤◌, Bool, true, false, List, map, ◌⊎◌, Option, Some}
use Rattle.std.specs.List.{Contains}
use Rattle.bq_job.specs.machine.{Effect, Machine.Machine, SeatRecord, after_delete, after_put, greatest, is_closed_answer, is_free_for}
use Rattle.bq_job.specs.machine.{is_full, is_held_by, is_reserved, job_with, new_job, reserve_effect, silent, telling, with_pause}
use Rattle.bq_job.specs.{beside.{AreIdsWithin, is_refusal, watches_once}, machine.{with_seat, with_tube}}
use Rattle.bq_job.specs.{promise.{answers_wanted, is_waiting_request}, Types.{Answer, Job, Request}}
use Rattle.bq_job.specs.declared.answer.Answer.TheVariants as answers
use Rattle.bq_job.specs.declared.request.Request.TheVariants as requests
use Rattle.bq_job.specs.declared.step.Step.TheVariants as steps
use Rattle.bq_job.proofs.ChangeLemmas.{Becomes}

-- none of RESERVED, INSERTED and DELETED
abbrev pub is_common : Option Answer → Bool
is_common (Some (answers.Reserved id body)) = false
is_common (Some (answers.Inserted id)) = false
is_common (Some answers.Deleted) = false
is_common _ = true

-- no client holds the job, or the client that asks does
abbrev pub IsFreeOrOwn : SeatRecord → Job → Type 0
IsFreeOrOwn s j = (is_reserved j.state ≡ false) ⊎ (is_held_by s.number j ≡ true)

-- The command was carried out, and its answer says so; only a reserve-job is answered RESERVED.
pub record SaysDone (request : Request) (answer : Answer) : Type 0 where
  pub wanted : answers_wanted request ≡ 1
  pub unclosed : is_closed_answer answer ≡ false
  pub done : is_refusal answer ≡ false
  pub own : (is_common (Some answer) ≡ true)
      ⊎ ((id : ℕ) × (body : List ℕ) × (request ≡ requests.ReserveJob id) × (answer ≡ answers.Reserved id body))

-- Jobs change by f, and the burial count grows. Each job keeps its id. It stays as it is, or
-- afterwards is free or held by the client that asks; what disturbs a job is recorded.
pub record ChangesJobs (m : Machine) (s : SeatRecord) (request : Request) (f : Job → Job) (burials : ℕ) : Type 0 where
  pub counts : m.burials ≤ greatest → burials ≤ greatest
  pub same : (j : Job) → (f j).id ≡ j.id
  pub holder : (j : Job) → (f j ≡ j) ⊎ IsFreeOrOwn s (f j)
  pub becomes : AreIdsWithin 1 m.jobs m.next_id → (j : Job) → Contains m.jobs j → Becomes (steps.Ask request) j (f j)

-- The seat changes by f: the tube that it uses, or the tubes that it watches, which are at least
-- one and none twice.
pub record ChangesSeat (s : SeatRecord) (f : SeatRecord → SeatRecord) : Type 0 where
  pub number : (t : SeatRecord) → (f t).number ≡ t.number
  pub connected : (t : SeatRecord) → (f t).connected ≡ t.connected
  pub wait : (t : SeatRecord) → (f t).wait ≡ t.wait
  pub watched : watches_once s ≡ true → (t : SeatRecord) → watches_once t ≡ true → watches_once (f t) ≡ true

pub data Kind (m : Machine) (s : SeatRecord) (request : Request) : Effect → Type 0 where
  -- gives no answer and changes nothing
  passes : answers_wanted request ≡ 0 → Kind m s request (silent m)
  -- answers and changes nothing
  tells : (answer : Answer) → answers_wanted request ≡ 1 → is_common (Some answer) ≡ true → is_closed_answer answer ≡ false
      → Kind m s request (telling answer m)
  -- lets the client wait for a job
  waits : (until : Option ℕ) → answers_wanted request ≡ 1 → is_waiting_request request ≡ true → Kind m s request (reserve_effect until m s)
  -- puts a job within the limit while the model isn't draining
  adds : (pri delay ttr : ℕ) (body : List ℕ) → answers_wanted request ≡ 1 → m.draining ≡ false → is_full m.settings.max_jobs m.jobs ≡ false
      → Kind m s request (telling (answers.Inserted m.next_id) (after_put m (new_job m s pri delay ttr body)))
  -- removes the job that the request names, which no client holds or the client that asks does
  deletes : (id : ℕ) (j : Job) → request ≡ requests.Delete id → job_with id m.jobs ≡ Some j → is_free_for s j ≡ true
      → Kind m s request (telling answers.Deleted (after_delete m j))
  -- changes one job by its id, or several, and keeps their ids, tubes and bodies
  changes_jobs : (answer : Answer) (f : Job → Job) (burials : ℕ) → SaysDone request answer → ChangesJobs m s request f burials
      → Kind m s request (telling answer (record m { jobs = map f m.jobs; burials = burials }))
  -- changes the seat of the client that asks
  changes_seat : (answer : Answer) (f : SeatRecord → SeatRecord) → SaysDone request answer → ChangesSeat s f
      → Kind m s request (telling answer (with_seat s.number f m))
  -- pauses a tube
  changes_tube : (tube : List ℕ) (seconds : ℕ) → answers_wanted request ≡ 1
      → Kind m s request (telling answers.Paused (with_tube tube (with_pause seconds m.moment) m))
