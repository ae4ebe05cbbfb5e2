-- The model as a function: what a step does if no allocation fails. It computes, so that worked
-- examples are checked by evaluation. That it is a step of the model is a law.
use Rattle.std.specs.Prelude.{false, ℕ, zero, suc, Option, Some, None, List, [], ◌∷◌, ◌++◌, count_by}
use Rattle.bq_job.specs.declared.answer.Answer.TheVariants as answers
use Rattle.bq_job.specs.Types.{Job, Step}
use Rattle.bq_job.specs.machine.{GivenAnswer, Machine.Machine, Outcome, SeatRecord, addressed, after_hand_out, after_timers, at_moment}
use Rattle.bq_job.specs.machine.{effect, end_of_wait, forgetting, is_waiting, next_end, next_job, next_seat, with_seat, without_wait}

-- a model, and the answers given on the way to it
pub record Served : Type 0 where
  pub machine : Machine
  pub given : List GivenAnswer

abbrev pub unserved : Machine → Served
unserved m = record { machine = m; given = [] }

abbrev pub after_given : GivenAnswer → Served → Served
after_given given later = record later { given = given ∷ later.given }

-- the job goes to this client, and dispatch goes on
abbrev pub handed_to : (Machine → Served) → Machine → Job → Option SeatRecord → Served
handed_to rest m j None = unserved m
handed_to rest m j (Some s) = after_given (s.number, answers.Reserved j.id j.body) (rest (after_hand_out m j s))

-- this job is handed out, and dispatch goes on
abbrev pub handed_out : (Machine → Served) → Machine → Option Job → Served
handed_out rest m None = unserved m
handed_out rest m (Some j) = handed_to rest m j (next_seat m j)

-- dispatch, for at most `turns` turns
abbrev pub dispatched : ℕ → Machine → Served
dispatched zero m = unserved m
dispatched (suc turns) m = handed_out (λ next. dispatched turns next) m (next_job m)

-- this client's wait ends, and the other waits follow
abbrev pub ended_at : (Machine → Served) → Machine → Option SeatRecord → Served
ended_at rest m None = unserved m
ended_at rest m (Some s) = after_given (s.number, end_of_wait m s) (rest (with_seat s.number without_wait m))

-- the ends of waits, for at most `turns` turns
abbrev pub wait_ended : ℕ → Machine → Served
wait_ended zero m = unserved m
wait_ended (suc turns) m = ended_at (λ next. wait_ended turns next) m (next_end m)

-- how many clients wait; dispatch serves no more than these
abbrev pub waiting_count : Machine → ℕ
waiting_count m = count_by is_waiting m.seats

abbrev pub after_dispatch : Machine → Served
after_dispatch m = let s = dispatched (waiting_count m) m in record s { machine = forgetting s.machine }

abbrev pub after_wait_ends : Machine → Served
after_wait_ends m = let s = wait_ended (waiting_count m) m in record s { machine = forgetting s.machine }

abbrev pub after_serving : Machine → Served
after_serving m =
    let d = after_dispatch m in
    let w = after_wait_ends d.machine in
    record w { given = d.given ++ w.given }

abbrev pub after_act : Machine → ℕ → Step → Served
after_act m seat what =
    let e = effect m seat what in record { machine = forgetting e.machine; given = addressed seat e.answer }

-- the outcome of a step in which no allocation fails
abbrev pub ample : Outcome
ample = record { left_out = false; unshared = false }

-- a step
abbrev pub stepped : Machine → ℕ → ℕ → Step → Served
stepped m at seat what =
    let before = after_serving (forgetting (after_timers (at_moment at m))) in
    let act = after_act before.machine seat what in
    let after = after_serving act.machine in
    record after { given = before.given ++ act.given ++ after.given }
