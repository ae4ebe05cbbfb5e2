use Rattle.std.proofs.Common.{subst, sym}
use Rattle.bq_event_loop.specs.Reports.{IsToldOf}
use Rattle.bq_event_loop.proofs.WaitingLemmas.{known_reported}
use Rattle.bq_event_loop.proofs.waiting.note_report.Goals as goal

pub returns-in-Line-clause-known : goal.returns-in-Line-clause-known
returns-in-Line-clause-known g c = search known_reported

pub returns-in-Line-clause-woken : goal.returns-in-Line-clause-woken
returns-in-Line-clause-woken g c =
    subst (λ r. IsToldOf r (g.T.Turns.seats c.args.turns.now) (g.T.Turns.tries c.args.turns.now) (g.T.Turns.listed c.wake.new.self))
    (sym c.in-Line.is) c.wake.ensures.woken
