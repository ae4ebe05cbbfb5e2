use Rattle.bq_seat.specs.SeatParts.{request_of}
use Rattle.bq_seat.proofs.OpenLemmas as going
use Rattle.bq_seat.proofs.machine.SeatMachine.take_in.Goals as goal

pub returns-then-self : goal.returns-then-self
returns-then-self c = search going.goes_told

pub returns : goal.returns
returns c =
    let t = c.take_to-taken in
    going.goes_taken c.args.self.now _ c.args.bytes.now t.new.reader t.result _ (request_of t.new.next) _ c.if-self.false
    c.replace_by_rest.ensures t.ensures.taken (c.ask_or_read.ensures (request_of t.new.next) t.ensures.asks)
