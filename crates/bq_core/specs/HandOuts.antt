-- One job is handed out.
use Rattle.std.specs.{Option.option_map, Prelude.{IfOk, List, Result, Some, [], ℕ, ◌++◌, ◌||◌, ◌∷◌, ◌≡◌}}
use Rattle.bq_core_api.specs.Outbox.{Outbox}
use Rattle.bq_job.specs.{declared.{fault.NoMemory.NoMemory, job.Job.Job}, machine.{GivenAnswer, IsHandOut, SeatRecord, is_out_of_memory}}
use Rattle.bq_job.specs.machine.{Machine.Machine, next_job, next_seat, reserved_by, with_job, with_seat, without_wait}

-- the client at this seat gets the next job, if there is one
abbrev pub IsPicked : Machine → ℕ → Type 0
IsPicked m seat = (j : Job) → next_job m ≡ Some j → Some seat ≡ option_map (λ s. s.number) (next_seat m j)

-- the model after the client at this seat stopped waiting and got the job with this id
abbrev pub handed_to : ℕ → ℕ → Machine → Machine
handed_to seat id m = with_seat seat without_wait (with_job id (reserved_by m.moment seat) m)

-- One answer was appended, and a body that could not be shared is recorded.
pub record AddsHandOut (m : Machine) (j : Job) (s : SeatRecord) (old new : Outbox) (last : Machine) : Type 0 where
  pub given : GivenAnswer
  pub hand_out : IsHandOut m j s given last
  pub added : new ≡ record old { given = old.given ++ given ∷ []; unshared = old.unshared || is_out_of_memory given.1 }

-- the job with this id goes to the client at this seat, with this reference to its body unless it
-- was refused
abbrev pub HandsOut : Machine → ℕ → ℕ → Result (List ℕ) NoMemory → Outbox → Outbox → Machine → Type 0
HandsOut m id number shared old new last =
    (j : Job) (s : SeatRecord) → id ≡ j.id → number ≡ s.number → IfOk shared (λ body. body ≡ j.body) → AddsHandOut m j s old new last
