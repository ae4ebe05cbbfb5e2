use Rattle.bq_seat.proofs.OpenLemmas as going
use Rattle.bq_seat.proofs.machine.SeatMachine.go_on.Goals as goal

pub returns-then-self : goal.returns-then-self
returns-then-self c =
    going.goes_told c.args.self.now _ _ c.args.self.now.kept c.if-self.true c.close.ensures.action c.close.ensures.after
