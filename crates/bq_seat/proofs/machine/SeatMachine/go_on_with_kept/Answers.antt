use Rattle.bq_seat.specs.SeatParts.{request_of}
use Rattle.bq_seat.proofs.OpenLemmas.{goes_taken}
use Rattle.bq_seat.proofs.machine.SeatMachine.go_on_with_kept.Goals as goal

pub returns : goal.returns
returns c =
    let t = c.take_to-taken in
    goes_taken c.args.self.now _ c.args.self.now.kept t.new.reader t.result _ (request_of t.new.next) _ c.requires c.drop_front.ensures
    (rw c.as_slice.ensures at t.ensures.taken) (c.ask_or_read.ensures (request_of t.new.next) t.ensures.asks)
