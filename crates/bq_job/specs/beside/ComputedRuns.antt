-- A run as a function: the steps that the model takes over a history if no allocation fails. It
-- computes, so that worked examples are checked by evaluation. That it is a run is a law.
use Rattle.std.specs.Prelude.{List, [], ◌∷◌, ◌++◌}
use Rattle.bq_job.specs.{beside.Computed.{after_act, after_dispatch, after_wait_ends, ample}, machine.after_timers}
use Rattle.bq_job.specs.{machine.{at_moment, forgetting, granted, Machine.Machine}, promise.{Entry, Transition}}

abbrev pub transition : Machine → Entry → Transition
transition m e =
    let handed = after_dispatch (forgetting (after_timers (at_moment e.moment m))) in
    let ended = after_wait_ends handed.machine in
    let act = after_act ended.machine e.seat e.what in
    let handed_then = after_dispatch act.machine in
    let ended_then = after_wait_ends handed_then.machine in
    record {
      entry = e;
      first = m;
      parts = record {
        handed = handed.given;
        between = handed.machine;
        ended = ended.given;
        before = ended.machine;
        memory = granted;
        after = act.machine;
        handed_then = handed_then.given;
        between_then = handed_then.machine;
        ended_then = ended_then.given;
      };
      last = ended_then.machine;
      outcome = ample;
      given = handed.given ++ ended.given ++ act.given ++ handed_then.given ++ ended_then.given;
    }

abbrev pub transitions : Machine → List Entry → List Transition
transitions m [] = []
transitions m (e ∷ history) = let t = transition m e in t ∷ transitions t.last history

-- the model after the history
abbrev pub machine_after : Machine → List Entry → Machine
machine_after m [] = m
machine_after m (e ∷ history) = machine_after (transition m e).last history
