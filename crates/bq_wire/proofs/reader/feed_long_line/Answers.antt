use Rattle.std.proofs.Common.{refl, sym, length, arith}
use Rattle.std.proofs.lemmas.Grind.{common_steps}
use Rattle.bq_wire.proofs.ReaderLemmas.{waits_by, long_stands, long_line_read, line_unit, hands_out}
use Rattle.bq_wire.proofs.reader.feed_long_line.Goals as goal

pub returns-in-None-clause-feeds : goal.returns-in-None-clause-feeds
returns-in-None-clause-feeds c = λ text stands.
    waits_by _ text c.args.piece.now (length c.args.piece.now) refl
    (long_stands c.args.state.now.max_job_size c.args.state.now.kept text c.args.piece.now c.ends_in_cr.result c.args.after_cr stands.0
    stands.1 stands.2 stands.3
    (sym c.in-None.ensures.value) c.ends_in_cr.ensures)

pub returns-in-Some-clause-feeds : goal.returns-in-Some-clause-feeds
returns-in-Some-clause-feeds c = grind (arith, common_steps, long_line_read, hands_out, line_unit)
