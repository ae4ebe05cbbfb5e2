use Rattle.std.proofs.Common.{arith}
use Rattle.bq_event_loop.proofs.RowLemmas.{keeps_door, keeps_seat}
use Rattle.bq_event_loop.proofs.row.Row.exchange.Goals as goal

pub returns-then-is_between-clause-keeps : goal.returns-then-is_between-clause-keeps
returns-then-is_between-clause-keeps g c = keeps_door (omega (arith, c.len.ensures, c.if-seat-len.false)) c.requires.tended
    c.index_mut.ensures.value (grind arith) c.exchange.ensures.same

pub returns-else-is_between-clause-keeps : goal.returns-else-is_between-clause-keeps
returns-else-is_between-clause-keeps g c = keeps_seat (omega (arith, c.len.ensures, c.if-seat-len.false)) c.requires.tended
    c.index_mut-else-is_between.ensures.value c.exchange-else-is_between.ensures
