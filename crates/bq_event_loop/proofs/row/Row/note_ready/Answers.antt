use Rattle.std.proofs.Common.{arith}
use Rattle.bq_event_loop.proofs.RowLemmas.{keeps_seat}
use Rattle.bq_event_loop.proofs.row.Row.note_ready.Goals as goal

pub returns-then-seat-len-clause-keeps : goal.returns-then-seat-len-clause-keeps
returns-then-seat-len-clause-keeps g c =
    keeps_seat (omega (arith, c.len.ensures, c.if-seat-len.true)) c.requires.tended c.index_mut.ensures.value c.note_ready.ensures.trace
