-- The outcomes of commands, between the states before and after.
use Rattle.std.specs.Prelude.{Bool, Option, ℕ, ◌≡◌}
use Rattle.bq_core.specs.{Acting.Replies, declared.acts.Reply.Reply}
use Rattle.bq_job.specs.{declared.answer.Answer.Answer, machine.{Effect, SeatRecord, reserve_effect, showing, silent}}
use Rattle.bq_job.specs.machine.Machine.{Machine}
use Rattle.bq_state.specs.{CoreParts.{AtSeat, machine_of}, declared.core_parts.CoreParts.CoreParts}
use Rattle.bq_jobs.specs.{Ranks.first_in, declared.places.JobList.JobList}

-- a request had this outcome
abbrev pub RepliesBy : Bool → (Machine → Effect) → CoreParts → Reply → Answer → CoreParts → Type 0
RepliesBy takes effect old reply told new = Replies takes (machine_of old) (effect (machine_of old)) reply told (machine_of new)

-- a request of the client at this seat, for whose record this holds
abbrev pub RepliesAt : ℕ → Bool → (Machine → SeatRecord → Effect) → CoreParts → Reply → Answer → CoreParts → Type 0
RepliesAt seat takes effect old reply told new = AtSeat seat old (λ s. RepliesBy takes (λ m. effect m s) old reply told new)

-- the same for any record with this number
abbrev pub RepliesTo : ℕ → Bool → (Machine → SeatRecord → Effect) → CoreParts → Reply → Answer → CoreParts → Type 0
RepliesTo seat takes effect old reply told new = (s : SeatRecord) → s.number ≡ seat → RepliesBy takes (λ m. effect m s) old reply told new

-- the client at this seat waits, until this moment if there is one
abbrev pub Waits : ℕ → Option ℕ → CoreParts → CoreParts → Type 0
Waits seat until old new =
    (s : SeatRecord) → s.number ≡ seat → reserve_effect until (machine_of old) s ≡ silent (machine_of new)

-- the first job in this list of the tube that the client uses is shown
abbrev pub peek_first_effect : JobList → Machine → SeatRecord → Effect
peek_first_effect list m s = showing m (first_in list s.used m.jobs)
