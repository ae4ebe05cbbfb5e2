use Rattle.std.proofs.Common.{◌+◌, ◌-◌, drop, take}
use Rattle.bq_wire.proofs.ReaderLemmas.{feeds_put, two_parts}
use Rattle.bq_wire.proofs.reader.feed_put.Goals as goal

pub returns-then-is_at_hand-clause-feeds : goal.returns-then-is_at_hand-clause-feeds
returns-then-is_at_hand-clause-feeds c = λ nothing text line.
    feeds_put c.args.state.now c.args.put text c.args.piece.now (take c.args.put.bytes c.args.piece.now)
    (take (c.args.put.bytes + 2 - c.args.put.bytes) (drop c.args.put.bytes c.args.piece.now)) c.whole_put.new.place
    nothing c.requires line (c.is_at_hand.ensures.whole c.if-is_at_hand.true) (two_parts c.args.piece.now c.args.put.bytes)
    (c.is_at_hand.ensures.small c.if-is_at_hand.true) c.whole_put.ensures
