use Rattle.std.proofs.Common.{arith}
use Rattle.bq_line.proofs.LackLemmas.{was_refused_at}
use Rattle.bq_host.proofs.HubSeatLemmas.{fresh_at, still_at}
use Rattle.bq_host.proofs.hub_seat.attend.Goals as goal

pub returns-clause-still : goal.returns-clause-still
returns-clause-still g c h = grind (arith, still_at g.K.QueueCore g.C.Clock _ c.go_on.new.link _ c.hub-1.given.1 (c.go_on.ensures.still h))

pub returns-clause-fresh : goal.returns-clause-fresh
returns-clause-fresh g c =
    let h = c.go_on.ensures.trace in
    fresh_at g.K.QueueCore g.C.Clock _ c.go_on.new.link _ h.0 h.1 c.hub-1.given.1 h.2

pub returns-clause-refused : goal.returns-clause-refused
returns-clause-refused g c = grind (arith, was_refused_at)

pub returns-clause-none : goal.returns-clause-none
returns-clause-none g c = grind arith
