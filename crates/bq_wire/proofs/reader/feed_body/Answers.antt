use Rattle.std.proofs.Common.{◌≡◌, ◌+◌, ◌<◌, arith, length, take}
use Rattle.std.proofs.Math.Seq.{take-length}
use Rattle.std.proofs.lemmas.Bool.Decides.{nat_tests}
use Rattle.bq_wire.specs.PutBodies.{TakesBytes}
use Rattle.bq_wire.proofs.ReaderLemmas.{begun_more, begun_whole, waits_by}
use Rattle.bq_wire.proofs.reader.feed_body.Goals as goal

pub returns-then-is_whole-clause-feeds : goal.returns-then-is_whole-clause-feeds
returns-then-is_whole-clause-feeds c = λ text stands.
    let taken = c.take-taken.ensures in
    let whole = begun_whole _ _ _ text _ _ stands.1 taken.put taken.takes (grind (arith, nat_tests)) c.into_request.ensures.request in
    grind arith

pub returns-else-is_whole-clause-feeds : goal.returns-else-is_whole-clause-feeds
returns-else-is_whole-clause-feeds c = λ text stands.
    let taken = c.take-taken in
    let less : taken.new.self.taken < taken.new.self.put.bytes + 2 = grind (arith, nat_tests) in
    let all : taken.result ≡ length c.args.piece.now = taken.ensures.all less in
    let piece : take taken.result c.args.piece.now ≡ c.args.piece.now = rw all (take-length c.args.piece.now) in
    let takes : TakesBytes c.args.body taken.new.self c.args.piece.now = rw piece at taken.ensures.takes in
    search (waits_by, begun_more)
