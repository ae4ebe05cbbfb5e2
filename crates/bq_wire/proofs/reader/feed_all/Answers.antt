use Rattle.bq_wire.proofs.ReaderLemmas.{take_two}
use Rattle.std.proofs.Common.{arith, append_assoc}
use Rattle.std.proofs.lemmas.Grind.{common_steps}
use Rattle.bq_wire.proofs.HasReadLemmas.{read_to_end}
use Rattle.bq_wire.proofs.reader.feed_all.Goals as goal

pub returns-in_default-clause-reads : goal.returns-in_default-clause-reads
returns-in_default-clause-reads c = λ taken read.
    let loop = c.loop-request in
    let fed = c.feed-taken in
    read_to_end loop.reader fed.new.self taken c.args.piece.now loop.from fed.result.0 loop.requests.items fed.result.1 c.in_default.is
    loop.invariant.within
    (loop.invariant.reads taken read) fed.ensures.reads (fed.ensures.waits c.in_default.is) (λ e. (fed.ensures.over e).2)

pub loop-request-preserved : goal.loop-request-preserved
loop-request-preserved c = grind (arith, common_steps, take_two, append_assoc)
