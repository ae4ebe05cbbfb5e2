-- Waits that end without a job, and chains of turns.
use Rattle.std.specs.{List.list_any, Prelude.{◌&&◌, ◌+◌, ◌==◌, ◌||◌, ◌∷◌, ◌≡◌, if◌then◌else◌, Bool, List, MatchOption}}
use Rattle.std.specs.Prelude.{None, Option, Some, [], ℕ, false, nat_le}
use Rattle.bq_job.specs.{machine.Changes.{first_of, is_waiting, with_seat, without_wait}, Types.{Answer, JobState}}
use Rattle.bq_job.specs.machine.{Dispatch.{GivenAnswer, is_wait_before}, Machine.{Machine, SeatRecord, Wait}}
use Rattle.bq_job.specs.declared.answer.Answer.TheVariants as answers
use Rattle.bq_job.specs.declared.job.JobState.TheVariants as states

-- a lease of the seat that ends within a second
abbrev pub is_ending_lease : ℕ → ℕ → JobState → Bool
is_ending_lease moment seat (states.Reserved holder deadline) = holder == seat && nat_le deadline (moment + 1000)
is_ending_lease moment seat _ = false

-- the client holds a job whose time to run ends within a second
abbrev pub is_deadline_soon : Machine → SeatRecord → Bool
is_deadline_soon m s = list_any (λ j. is_ending_lease m.moment s.number j.state) m.jobs

abbrev pub is_past : ℕ → Option ℕ → Bool
is_past moment None = false
is_past moment (Some until) = nat_le until moment

abbrev pub is_until_over : ℕ → Option Wait → Bool
is_until_over moment None = false
is_until_over moment (Some wait) = is_past moment wait.until

-- The client's wait has timed out, or the client sends no more.
abbrev pub is_timed_out_at : ℕ → SeatRecord → Bool
is_timed_out_at moment s = is_until_over moment s.wait || s.ended

abbrev pub is_timed_out : Machine → SeatRecord → Bool
is_timed_out m s = is_timed_out_at m.moment s

abbrev pub ends_waiting : Machine → SeatRecord → Bool
ends_waiting m s = is_waiting s && (is_deadline_soon m s || is_timed_out m s)

abbrev pub end_of_wait : Machine → SeatRecord → Answer
end_of_wait m s = if is_deadline_soon m s then answers.DeadlineSoon else answers.TimedOut

-- of the clients whose wait ends now, the one that has waited longest
abbrev pub next_end : Machine → Option SeatRecord
next_end m = first_of (ends_waiting m) is_wait_before m.seats

-- one wait ends
abbrev pub WaitEndTurn : Machine → GivenAnswer → Machine → Type 0
WaitEndTurn m given next =
    MatchOption (next_end m) ⊥ (λ s. (given ≡ (s.number, end_of_wait m s)) × (next ≡ with_seat s.number without_wait m))

-- one turn after another, each with its answer
abbrev pub Chain : (Machine → GivenAnswer → Machine → Type 0) → Machine → List GivenAnswer → Machine → Type 0
Chain Turn first [] last = last ≡ first
Chain Turn first (given ∷ more) last = (next : Machine) × Turn first given next × Chain Turn next more last
