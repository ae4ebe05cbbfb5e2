use Rattle.std.proofs.Common.{◌∙◌, sym}
use Rattle.bq_cli.proofs.DoorLemmas.{doors_served}
use Rattle.bq_cli.proofs.server.run_loop.Goals as goal

pub returns-in-Ok-serve_doors_by_loop-clause-served : goal.returns-in-Ok-serve_doors_by_loop-clause-served
returns-in-Ok-serve_doors_by_loop-clause-served g c =
    let given = c.in-Ok.ensures in
    let over = c.in-Ok-serve_doors_by_loop.ensures in
    let doors = c.in-Ok-serve_doors_by_loop.run'.doors in
    let seats = sym c.in-Ok.doors.ok.0 ∙ given.many in
    record {
      first = c.in-Ok.doors.items;
      new = given.new;
      at = given.at;
      clock = c.new-clock.result;
      new_clock = c.new-clock.ensures;
      so_far = over.so_far;
      served = λ ended. doors_served _ _ c.in-Ok.doors.items doors.items _ seats doors.ok.0 over.same given.at
          (over.at_end ended);
      is_run = over.served;
    }
