-- Turns of dispatch and ends of waits: what each gives and leaves.
use Rattle.std.proofs.{Common.{◌≡◌, List, Some, ℕ, arith}, lemmas.{Bool.and_from, Grind.common_steps}}
use Rattle.std.specs.List.{list_any}
use Rattle.bq_job.specs.declared.answer.Answer.TheVariants as answers
use Rattle.bq_job.specs.machine.{DispatchTurn, GivenAnswer, IsHandOut, Machine.Machine, SeatRecord, is_job_before, is_waiting}
use Rattle.bq_job.specs.{declared.job.Job.Job, laws.{GetsLeast, IsLeastFor}, machine.{is_waiting_for, may_have}}
use Rattle.bq_job.specs.machine.{next_job, next_seat}
use Rattle.bq_job.proofs.ChoiceLemmas.{first_of_contains, first_of_is_least, pair_order}
use Rattle.bq_job.proofs.{ComputedLemmas.next_seat_waits, ListLemmas.list_any_with}

-- A turn of dispatch has a next job and a next client for it.
pub record Turn (m : Machine) (given : GivenAnswer) (next : Machine) : Type 0 where
  pub job : Job
  pub client : SeatRecord
  pub job_is : next_job m ≡ Some job
  pub client_is : next_seat m job ≡ Some client
  pub hands : IsHandOut m job client given next

pub turn_of : (m : Machine) (given : GivenAnswer) (next : Machine) → DispatchTurn m given next → Turn m given next
turn_of m given next turn = grind (arith, common_steps)

-- The next job is the least of those that its client may have.
pub next_is_least : (m : Machine) (j : Job) (s : SeatRecord) → next_job m ≡ Some j → next_seat m j ≡ Some s → IsLeastFor m s j
next_is_least m j s e f =
    let w = next_seat_waits m j s f in
    record {
      kept = first_of_contains (λ j. list_any (is_waiting_for m j) m.seats) is_job_before m.jobs j e;
      allowed = w.2;
      least = λ k i h.
          first_of_is_least (λ j. list_any (is_waiting_for m j) m.seats) (pair_order (λ j. j.pri) (λ j. j.id)) m.jobs j k e i
          (list_any_with (is_waiting_for m k) m.seats s w.0 (and_from (is_waiting s) (may_have m s k) w.1 h));
    }

-- The RESERVED that a turn of dispatch gives is for the least job that the client may have.
pub reserved_is_least : (m next : Machine) (seat id : ℕ) (body : List ℕ) → DispatchTurn m (seat, answers.Reserved id body) next
    → GetsLeast m seat id body
reserved_is_least m next seat id body turn =
    let t = turn_of m (seat, answers.Reserved id body) next turn in
    let w = next_seat_waits m t.job t.client t.client_is in
    grind (arith, common_steps, next_is_least)
