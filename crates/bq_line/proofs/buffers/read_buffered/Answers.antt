use Rattle.bq_line.proofs.buffers.read_buffered.Goals as goal

pub returns-in-Err : goal.returns-in-Err
returns-in-Err g c = (rw c.in-Err.ensures.seen (c.tell_error.ensures (g.L.Line.seen c.args.line.now)), c.in-Err.ensures.stays)
