use Rattle.std.proofs.Common.{arith}
use Rattle.std.proofs.lemmas.Grind.{common_steps}
use Rattle.bq_wire.proofs.ReaderLemmas.{feeds_behind}
use Rattle.bq_wire.proofs.reader.after_line.Goals as goal

pub returns-in-PutWaits-clause-feeds : goal.returns-in-PutWaits-clause-feeds
returns-in-PutWaits-clause-feeds c = λ asked_for told nothing text line.
    feeds_behind _ text c.args.piece.now _ c.args.end _ _ c.requires.within (grind (arith, common_steps))
    (c.feed_put-taken.ensures.feeds nothing _ (grind (arith, common_steps)))
