-- Dispatch: while a waiting client may have a ready job, the least of all such jobs goes to the
-- client that has waited longest among those that may have it.
use Rattle.std.specs.{List.list_any, Prelude.{◌&&◌, ◌≡◌, ◌⊎◌, Bool, MatchOption, None, Option, Some, ℕ, not}}
use Rattle.bq_job.specs.machine.Changes.{first_of, is_pair_before, is_waiting, is_ready, with_job, with_seat, without_wait}
use Rattle.bq_job.specs.machine.{Limits.{later, raised}, Machine.{Machine, SeatRecord, Wait}, Tubes.is_paused}
use Rattle.bq_job.specs.{machine.Tubes.watches, Types.{Answer, Counts, Job}}
use Rattle.bq_job.specs.declared.answer.Answer.TheVariants as answers
use Rattle.bq_job.specs.declared.job.JobState.TheVariants as states

-- an answer, and the seat that it goes to
abbrev pub GivenAnswer : Type 0
GivenAnswer = ℕ × Answer

-- A client may have a ready job in an unpaused tube that it watches.
abbrev pub may_have : Machine → SeatRecord → Job → Bool
may_have m s j = is_ready j && watches j.tube s && not (is_paused j.tube m)

-- the order of ready jobs: by priority, then by id
abbrev pub is_job_before : Job → Job → Bool
is_job_before a b = is_pair_before a.pri a.id b.pri b.id

abbrev pub ticket_of : Option Wait → ℕ
ticket_of None = 0
ticket_of (Some wait) = wait.ticket

-- the order of waiting clients: by ticket, then by seat
abbrev pub is_wait_before : SeatRecord → SeatRecord → Bool
is_wait_before a b = is_pair_before (ticket_of a.wait) a.number (ticket_of b.wait) b.number

-- a client waits for the job
abbrev pub is_waiting_for : Machine → Job → SeatRecord → Bool
is_waiting_for m j s = is_waiting s && may_have m s j

-- the least job that a waiting client may have
abbrev pub next_job : Machine → Option Job
next_job m = first_of (λ j. list_any (is_waiting_for m j) m.seats) is_job_before m.jobs

-- the client that has waited longest of those that may have the job
abbrev pub next_seat : Machine → Job → Option SeatRecord
next_seat m j = first_of (is_waiting_for m j) is_wait_before m.seats

abbrev pub with_reserve : Counts → Counts
with_reserve counts = record counts { reserves = raised counts.reserves }

-- the job once the client at the seat holds it
abbrev pub reserved_by : ℕ → ℕ → Job → Job
reserved_by moment seat j = record j { state = states.Reserved seat (later moment j.ttr); counts = with_reserve j.counts }

abbrev pub after_hand_out : Machine → Job → SeatRecord → Machine
after_hand_out m j s = with_seat s.number without_wait (with_job j.id (reserved_by m.moment s.number) m)

-- The client gets the job. If its body could not be shared, the client is answered OUT_OF_MEMORY
-- and no longer waits, and the job stays as it was.
abbrev pub IsHandOut : Machine → Job → SeatRecord → GivenAnswer → Machine → Type 0
IsHandOut m j s given next =
    ((given ≡ (s.number, answers.Reserved j.id j.body)) × (next ≡ after_hand_out m j s))
    ⊎ ((given ≡ (s.number, answers.OutOfMemory)) × (next ≡ with_seat s.number without_wait m))

-- one job is handed out
abbrev pub DispatchTurn : Machine → GivenAnswer → Machine → Type 0
DispatchTurn m given next =
    MatchOption (next_job m) ⊥ (λ j. MatchOption (next_seat m j) ⊥ (λ s. IsHandOut m j s given next))
