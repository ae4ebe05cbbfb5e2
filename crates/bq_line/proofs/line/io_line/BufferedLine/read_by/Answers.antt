use Rattle.std.proofs.Common.{ap}
use Rattle.bq_line.specs.Streams.{behind}
use Rattle.bq_line.proofs.StreamLemmas.{read_noted, stream_of}
use Rattle.bq_line.proofs.line.io_line.BufferedLine.read_by.Goals as goal

pub returns-clause-stays : goal.returns-clause-stays
returns-clause-stays g c first over =
    let read = c.read_through-result in
    let of = stream_of g.S.Duplex in
    let after = behind read.new.buffer in
    read_noted first _ (after (of read.new.stream)) _ _ _ read.result read.new.buf _ read.auto.buf c.requires read.ensures
    c.note_read.ensures.seen (ap after (ap of c.note_read.ensures.stream)) over
