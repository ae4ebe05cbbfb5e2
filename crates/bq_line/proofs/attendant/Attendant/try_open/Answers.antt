use Rattle.bq_line.proofs.TendingLemmas.{tends_opened}
use Rattle.bq_line.proofs.attendant.Attendant.try_open.Goals as goal

pub returns-in-Ok-Line-clause-trace : goal.returns-in-Ok-Line-clause-trace
returns-in-Ok-Line-clause-trace g c =
    let opened = rw c.in-Ok-Line.field-0-is at c.in-Ok-Line.ensures.opened in
    rw (c.set_phase.ensures, c.requires.between)
    (tends_opened g.L.Line.seen c.args.self.now.machine c.open-action.new.self c.in-Ok-Line.line c.open-action.result _ _
    c.open-action.ensures c.in-Ok-Line.ensures.over opened.0 opened.1 opened.2)
