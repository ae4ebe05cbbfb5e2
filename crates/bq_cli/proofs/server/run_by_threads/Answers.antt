use Rattle.std.proofs.Common.{◌∙◌, sym}
use Rattle.bq_cli.proofs.DoorLemmas.{doors_served}
use Rattle.bq_cli.proofs.server.run_by_threads.Goals as goal

pub returns-in-Ok-serve_doors-clause-served : goal.returns-in-Ok-serve_doors-clause-served
returns-in-Ok-serve_doors-clause-served g c =
    let given = c.in-Ok.ensures in
    let over = c.in-Ok-serve_doors.ensures in
    let doors = c.in-Ok-serve_doors.run'.doors in
    let seats = sym c.in-Ok.doors.ok.0 ∙ given.many in
    record {
      served = doors_served _ _ c.in-Ok.doors.items doors.items _ seats doors.ok.0 over.same given.at over.at_end;
      clock = c.new-clock.result;
      new_clock = c.new-clock.ensures;
      is_run = over.served;
    }
