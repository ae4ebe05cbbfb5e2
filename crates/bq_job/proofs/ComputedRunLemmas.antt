-- What is computed over a history is a run, and what is computed of a step is a step.
use Rattle.std.proofs.Common.{ℕ, List, [], ◌∷◌, refl, arith, append_assoc}
use Rattle.bq_job.specs.machine.{IsStep, Machine.Machine, Serves, after_timers, at_moment, effect, forgetting}
use Rattle.bq_job.specs.beside.{ample, after_dispatch, after_wait_ends, machine_after, stepped, transition, transitions, waiting_count}
use Rattle.bq_job.specs.{promise.{Entry, GoesBy, IsTransition}, Types.Step}
use Rattle.bq_job.proofs.ComputedLemmas.{dispatched_all, wait_ended_all}
use Rattle.std.proofs.lemmas.Grind.{common_steps}

serves_so : (m : Machine) → Serves m (after_dispatch m).given (after_wait_ends (after_dispatch m).machine).given
    (after_wait_ends (after_dispatch m).machine).machine
serves_so m =
    let n = (after_dispatch m).machine in
    let d = dispatched_all (waiting_count m) m in
    let e = wait_ended_all (waiting_count n) n in
    grind arith

transition_is_one : (m : Machine) (e : Entry) → IsTransition (transition m e)
unfolding serves_so
transition_is_one m e =
    let begin : Machine = forgetting (after_timers (at_moment e.moment m)) in
    let before : Machine = (after_wait_ends (after_dispatch begin).machine).machine in
    let after : Machine = forgetting (effect before e.seat e.what).machine in
    let d = dispatched_all (waiting_count begin) begin in
    let d_then = dispatched_all (waiting_count after) after in
    record { step = grind (arith, common_steps, serves_so begin, serves_so after); parts_are = refl }

pub stepped_is_step : (m : Machine) (at seat : ℕ) (what : Step)
    → IsStep m at seat what ample (stepped m at seat what).given (stepped m at seat what).machine
stepped_is_step m at seat what =
    let e : Entry = record { moment = at; seat = seat; what = what } in
    let t = transition m e in
    rw append_assoc at ((transition_is_one m e).step)

pub computed_goes : (m : Machine) (history : List Entry) → GoesBy m (transitions m history) (machine_after m history)
computed_goes m [] = refl
computed_goes m (e ∷ history) = (refl, transition_is_one m e, computed_goes (transition m e).last history)
