use Rattle.bq_line.proofs.TendingLemmas.{tends_opened}
use Rattle.bq_line.proofs.attendant.open_in_place.Goals as goal

pub returns-in-Ok-Some-clause-trace : goal.returns-in-Ok-Some-clause-trace
returns-in-Ok-Some-clause-trace g c =
    let opened = rw c.in-Ok-Some.field-0-is at c.in-Ok-Some.ensures.opened in
    rw c.set_phase.ensures (tends_opened g.L.Line.seen c.args.machine.now c.open-action.new.self c.in-Ok-Some.line c.open-action.result _ _
    c.open-action.ensures c.in-Ok-Some.ensures.over opened.0 opened.1 opened.2)
