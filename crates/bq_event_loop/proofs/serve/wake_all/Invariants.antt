use Rattle.std.proofs.Common.{◌≡◌, length}
use Rattle.bq_event_loop.specs.Known.{KeepsAll}
use Rattle.bq_event_loop.specs.KnownTurns.{AreKnownBy}
use Rattle.bq_event_loop.proofs.serve.wake_all.Given as goal

abbrev pub invariant-loop-seat : goal.invariant-loop-seat
invariant-loop-seat g l = record {
  rest : l.core ≡ record l.fn.core { wake_queue = l.core.wake_queue };
  seats : l.core.wake_queue.seats ≡ l.fn.core.wake_queue.seats;
  known : AreKnownBy g.L.Line g.T.Turns l.turns l.core.wake_queue.waiting l.fn.row.seats.items l.core.mails.items;
  keeps : KeepsAll (g.T.Turns.listed l.fn.turns) (g.T.Turns.listed l.turns);
}

abbrev pub decreases-loop-seat : goal.decreases-loop-seat
decreases-loop-seat g l = length l.core.wake_queue.waiting
