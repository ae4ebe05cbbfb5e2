use Rattle.std.proofs.Common.{refl, arith}
use Rattle.bq_wire.proofs.ReaderLemmas.{waits_by, kept_stands}
use Rattle.bq_wire.proofs.reader.feed_line.Goals as goal

pub returns-in-None-clause-feeds : goal.returns-in-None-clause-feeds
returns-in-None-clause-feeds c = λ text stands. waits_by _ text _ _ refl (grind (arith, kept_stands))
