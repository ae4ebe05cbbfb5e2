-- The answers of commands, from what was done and read.
use Rattle.std.proofs.Common.{IfOk, List, Ok, Result, ap, arith, count_by, is_some, sym, true, ℕ, ◌*◌, ◌+◌, ◌∙◌, ◌≡◌}
use Rattle.std.proofs.lemmas.Grind.{common_steps}
use Rattle.bq_core.proofs.{ActLemmas.{closed_connected, connected_free, ended_connected, some_there}, AskLemmas.{asks_more, asks_none}}
use Rattle.bq_core.proofs.{AskLemmas.{asks_then, within}, CostLemmas.given_back_changed, TurnLemmas.if_ok}
use Rattle.bq_core.specs.FiredTimers.{after_giving_back}
use Rattle.bq_job.{proofs.BecomeLemmas.free_by_delay, specs.{declared.{fault.NoMemory.NoMemory, job.JobState.JobState}, machine.SeatRecord}}
use Rattle.bq_job.specs.machine.{effect, is_held_by, job_with, raised, seat_with, showing, state_once_left, telling, use_effect, using}
use Rattle.bq_job.specs.machine.{Machine.Machine, with_seat}
use Rattle.bq_jobs.{proofs.Changes.found_id, specs.{Searching.Asks, Seen.IsBodyOf}}
use Rattle.bq_state.specs.{Asking.AsksAsChanged, CoreParts.{OnlyCompares, fields, machine_of, machine_of_fields}, SeatChanges.seat_changed}
use Rattle.bq_state.specs.{SeatStates.{is_connected, is_free}, declared.core_parts.CoreParts.CoreParts}
use Rattle.bq_state.specs.declared.seats.SeatChange.TheVariants.{Clear, Connect, End}
use Rattle.bq_job.specs.declared.answer.Answer.TheVariants as answers
use Rattle.bq_job.specs.declared.step.Step.TheVariants as steps

-- A job that exists is shown with its body.
pub shown_so : (st last : CoreParts) (id : ℕ) (r : Result (List ℕ) NoMemory) (body : List ℕ) → r ≡ Ok body
    → true ≡ is_some (job_with id (machine_of st).jobs) → IfOk r (IsBodyOf (job_with id (machine_of st).jobs))
    → OnlyCompares st last → showing (machine_of st) (job_with id (machine_of st).jobs) ≡ telling (answers.Found id body) (machine_of last)
shown_so st last id r body is there told same = grind (arith, common_steps, some_there, if_ok, found_id)

-- a client that connects, ends or disconnects
pub connects : (st between last : CoreParts) (seat : ℕ) → true ≡ is_free (seat_with seat st.seats.items)
    → machine_of between ≡ with_seat seat (seat_changed Connect) (machine_of st)
    → fields last ≡ record (fields between) { connections = raised between.connections }
    → machine_of last ≡ (effect (machine_of st) seat steps.Connect).machine
connects st between last seat free after counted = ap machine_of_fields counted
    ∙ ap (λ (x : Machine). record x { connections = raised x.connections }) after ∙ sym (connected_free _ _ (sym free))

pub ends : (st last : CoreParts) (seat : ℕ) → true ≡ is_connected (seat_with seat st.seats.items)
    → machine_of last ≡ with_seat seat (seat_changed End) (machine_of st)
    → machine_of last ≡ (effect (machine_of st) seat steps.End).machine
ends st last seat there after = let e = ended_connected (machine_of st) seat (sym there) in cc

pub closes : (st between last : CoreParts) (seat : ℕ) (becomes : JobState) → true ≡ is_connected (seat_with seat st.seats.items)
    → becomes ≡ state_once_left (machine_of st) → machine_of between ≡ after_giving_back becomes seat (machine_of st)
    → machine_of last ≡ with_seat seat (seat_changed Clear) (machine_of between)
    → effect (machine_of st) seat steps.Close ≡ telling answers.Closed (machine_of last)
closes st between last seat becomes there state gives after = let e = closed_connected (machine_of st) seat (sym there) in cc

pub close_asks : (st between last : CoreParts) (seat : ℕ) (becomes : JobState) → becomes ≡ state_once_left (machine_of st)
    → machine_of between ≡ after_giving_back becomes seat (machine_of st) → last.store.jobs ≡ between.store.jobs
    → Asks (9 * count_by (is_held_by seat) st.store.jobs.jobs + 1) st.store.jobs between.store.jobs
    → AsksAsChanged st.store.jobs last.store.jobs
close_asks st between last seat becomes state gives same asks = grind (arith, common_steps, within, given_back_changed, free_by_delay)

-- the tubes that a client uses and watches
pub use_told : (st between last : CoreParts) (s : SeatRecord) (seat : ℕ) (tube : List ℕ) → s.number ≡ seat
    → machine_of between ≡ machine_of st → machine_of last ≡ with_seat seat (using tube) (machine_of between)
    → use_effect tube (machine_of st) s ≡ telling (answers.Using tube) (machine_of last)
use_told st between last s seat tube is provides after = grind (arith, common_steps)

-- the searches of a loop, under a name that an attribute can cite
pub ruleset loop_asks = (common_steps, asks_more, asks_none, asks_then)
