use Rattle.std.proofs.Common.{[]}
use Rattle.bq_event_loop.specs.Known.{KeepsAll}
use Rattle.bq_event_loop.specs.KnownTurns.{AreKnownBy}
use Rattle.bq_event_loop.specs.Reports.{MayHaveCome}
use Rattle.bq_event_loop.specs.Rows.{KeepsRow}
use Rattle.bq_event_loop.proofs.waiting.note_reports.Given as goal

abbrev pub invariant-loop-number : goal.invariant-loop-number
invariant-loop-number g l = record {
  keeps : KeepsRow g.L.Line g.D.Door l.fn.row l.row;
  known : AreKnownBy g.L.Line g.T.Turns l.turns []
      l.row.seats.items l.fn.mails.items;
  listed : KeepsAll (g.T.Turns.listed l.fn.turns) (g.T.Turns.listed l.turns);
  doors : MayHaveCome l.fn.doors l.doors;
}
