use Rattle.std.proofs.Common.{arith}
use Rattle.bq_event_loop.proofs.RowLemmas.{keeps_set, placed_there}
use Rattle.bq_event_loop.proofs.row.Row.try_open.Goals as goal

pub try_open_at-requires : goal.try_open_at-requires
try_open_at-requires g c = record {
  placed = placed_there (omega (arith, c.len.ensures, c.if-seat-len.false)) c.requires.tended
      c.index_mut.ensures.value c.index_mut-2.ensures.value;
}

pub returns-clause-keeps : goal.returns-clause-keeps
returns-clause-keeps g c = keeps_set (omega (arith, c.len.ensures, c.if-seat-len.false)) c.requires.tended c.index_mut.ensures.value
    c.index_mut-2.ensures.value c.try_open_at.ensures.trace c.try_open_at.ensures.same
