use Rattle.std.proofs.Common.{ap}
use Rattle.bq_line.proofs.StreamLemmas.{read_noted, stream_of}
use Rattle.bq_line.proofs.line.io_line.IoLine.read_by.Goals as goal

pub returns-clause-stays : goal.returns-clause-stays
returns-clause-stays g c first over =
    let of = stream_of g.S.Duplex in
    read_noted first (of c.args.self.now.stream) (of c.read_by-result.new.stream) _ _ _ c.read_by-result.result c.read_by-result.new.buf _
    c.read_by-result.auto.buf c.requires c.read_by-result.ensures c.note_read.ensures.seen (ap of c.note_read.ensures.stream) over
