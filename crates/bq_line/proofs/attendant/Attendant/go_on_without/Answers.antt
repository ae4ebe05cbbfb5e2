use Rattle.std.proofs.Common.{[], refl, inr}
use Rattle.bq_line.proofs.TendingLemmas.{tends_still}
use Rattle.bq_line.proofs.attendant.Attendant.go_on_without.Goals as goal

pub returns-in-Between-clause-trace : goal.returns-in-Between-clause-trace
returns-in-Between-clause-trace g c =
    rw c.in-Between.is ([], [], inr (refl, refl, refl), c.open_in_place.ensures.trace)

pub returns-in-Done-clause-trace : goal.returns-in-Done-clause-trace
returns-in-Done-clause-trace g c = ([], [], inr (refl {a = c.args.link.now}, refl, refl), tends_still g.L.Line.seen c.args.self.now _)

pub returns-in-Leaving-clause-trace : goal.returns-in-Leaving-clause-trace
returns-in-Leaving-clause-trace g c = c.leave.ensures.trace _ _
