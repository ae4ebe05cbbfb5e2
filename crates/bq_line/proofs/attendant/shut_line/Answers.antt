use Rattle.std.proofs.Common.{◌≡◌}
use Rattle.bq_seat.specs.declared.machine.Action.TheVariants as actions
use Rattle.bq_line.specs.declared.attendant.SeatPhase.TheVariants as phases
use Rattle.bq_line.specs.Tending.{door_seen}
use Rattle.bq_line.proofs.TendingLemmas.{tends_shut}
use Rattle.bq_line.proofs.attendant.shut_line.Goals as goal

pub returns-in-On-clause-trace : goal.returns-in-On-clause-trace
returns-in-On-clause-trace g c = λ machine.
    let at = door_seen g.D.Door in
    let over : c.args.phase.now ≡ phases.On c.in-On.line (actions.LineOver c.args.end) c.in-On.field-2 =
    let first = c.requires.over.2 in let second = c.in-On.is in let third = c.replace.ensures.value in cc in
    rw (over, c.replace.ensures.after) (tends_shut g.L.Line.seen machine c.in-On.line c.args.end c.in-On.field-2
    (at c.args.door.now) (at c.shut.new.self) c.shut.ensures.over c.shut.ensures.inside c.shut.ensures.at_end)
