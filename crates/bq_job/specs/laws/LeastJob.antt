-- The least job that a client may have.
use Rattle.std.specs.{Bool.IsFalse, Prelude.{◌≡◌, Contains, IsTrue, List, ℕ}}
use Rattle.bq_job.specs.declared.job.Job.{Job}
use Rattle.bq_job.specs.machine.{Machine.Machine, SeatRecord, is_job_before, is_waiting, may_have}

-- The client may have this job, and no job that it may have comes before it.
pub record IsLeastFor (m : Machine) (s : SeatRecord) (j : Job) : Type 0 where
  pub kept : Contains m.jobs j
  pub allowed : IsTrue (may_have m s j)
  pub least : (k : Job) → Contains m.jobs k → IsTrue (may_have m s k) → IsFalse (is_job_before k j)

-- The client at the seat waits, and the least job that it may have has this id and this body.
pub record GetsLeast (m : Machine) (seat id : ℕ) (body : List ℕ) : Type 0 where
  pub client : SeatRecord
  pub job : Job
  pub seated : Contains m.seats client
  pub seat_is : seat ≡ client.number
  pub waits : IsTrue (is_waiting client)
  pub id_is : id ≡ job.id
  pub body_is : body ≡ job.body
  pub least : IsLeastFor m client job
