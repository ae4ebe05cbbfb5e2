use Rattle.std.proofs.Common.{◌∙◌, ap, rules}
use Rattle.bq_event_loop.proofs.SoFarLemmas.{serving_over, serving_settings, serving_so_far}
use Rattle.bq_event_loop.proofs.run.run_at.Goals as goal

pub serve-is_over-requires : goal.serve-is_over-requires
serve-is_over-requires g c = rw (c.begin-began.ensures, c.new-input.ensures) (record { new = search rules })

pub returns : goal.returns
returns g c =
    let s = rw (c.begin-began.ensures, c.new-input.ensures) at c.serve-is_over.ensures.serving in
    let parts = c.into_parts-clock.ensures in
    let done = c.serve-is_over.ensures.done in
    let over = c.serve-is_over.ensures.over in
    record {
      served = λ is.
          let o = serving_over s.served (done is) s.submits (over is) in
          rw (parts.clock, parts.core) (record {
            readings = s.served.readings;
            gave = s.served.gave;
            over = o.told_is.over;
            read = o.told_is.read;
            fault = o.told_is.fault;
            history = o.history;
            compared = o.compared;
          });
      so_far = rw (parts.clock, parts.core) (serving_so_far s.served s.submits);
      at_end = λ is. (serving_over s.served (done is) s.submits (over is)).at_end;
      same = s.served.same_doors;
      settings = ap (λ core. (g.K.QueueCore.machine core).settings) parts.core ∙ serving_settings s.served c.steps_keep_settings.ensures;
    }
