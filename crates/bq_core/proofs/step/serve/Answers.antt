use Rattle.std.proofs.{Common.{ap, arith, sym, ◌*◌, ◌++◌, ◌+◌, ◌∙◌}, Math.Bool.or-false}
use Rattle.bq_core.proofs.{AskLemmas.{asks_more, asks_then}, CostLemmas.given_length, StepLemmas.{dispatch_alike, ends_alike}}
use Rattle.bq_core.proofs.TurnLemmas.{room_kept}
use Rattle.bq_job.proofs.QuietLemmas.{forgets_nothing}
use Rattle.bq_state.specs.{CoreParts.machine_of, Cost.waited}
use Rattle.bq_core.proofs.step.serve.Goals as goal

pub returns : goal.returns
returns c =
    let d = c.dispatch.ensures.given in
    let w = c.end_waits.ensures.given in
    let none = dispatch_alike _ _ _ d.turns c.requires.tubes in
    let last_none = ends_alike _ _ _ w.turns none in
    let turns = ap (λ k. k * (waited (machine_of c.args.state.now) + 9)) (given_length _ _ _ _ _ _ d) in
    record {
      served = record {
        serves = record {
          handed = d.given;
          ended = w.given;
          serves = record {
            between = machine_of c.dispatch.new.state;
            dispatches = record { end = _; turns = d.turns; done = c.dispatch.ensures.done; forgets = sym (forgets_nothing _ none) };
            ends_waits = record { end = _; turns = w.turns; done = c.end_waits.ensures.done; forgets = sym (forgets_nothing _ last_none) };
          };
          added = w.added ∙ ap (λ given. given ++ w.given) d.added;
          most = w.most ∙ d.most;
          left_out = w.left_out ∙ d.left_out;
          unshared = w.unshared ∙ or-false _ ∙ d.unshared;
          tubes = last_none;
          room = λ more h. room_kept _ _ _ _ _ _ _ w (room_kept _ _ _ _ _ _ _ d h);
        };
        asks = asks_more _ (omega (arith, turns, d.taken)) (asks_then c.dispatch.ensures.asks c.end_waits.ensures.asks);
      };
    }
