use Rattle.std.proofs.Common.{◌≡◌, [], length}
use Rattle.bq_event_loop.specs.Known.{IsFreeSeat, IsStillSeat}
use Rattle.bq_event_loop.specs.KnownTurns.{AreKnownBy}
use Rattle.bq_event_loop.specs.Serving.{AreReady, IsServing}
use Rattle.bq_event_loop.specs.Sleeping.{IsWaitFor, stands_of}
use Rattle.bq_event_loop.specs.SoFar.{began_with}
use Rattle.bq_host.specs.WakeLists.{none_waits}
use Rattle.bq_event_loop.proofs.serve.serve.Given as goal

abbrev pub invariant-loop : goal.invariant-loop
invariant-loop g l = record {
  ready : AreReady g.K.QueueCore g.L.Line g.D.Door l.core l.row;
  serving : IsServing g.K.QueueCore g.C.Clock g.L.Line g.D.Door g.I.ControlInput [] (began_with g.I.ControlInput l.fn.began) l.core l.row
      l.control;
  known : AreKnownBy g.L.Line g.T.Turns l.turns [] l.row.seats.items l.core.mails.items;
  woken : l.core.wake_queue ≡ none_waits (length l.core.mails.items);
  due : IsWaitFor g.K.QueueCore l.news.due l.core;
  free : IsFreeSeat l.news.free l.row.seats.items;
  still : IsStillSeat g.L.Line l.news.still l.row.seats.items l.core.mails.items;
  stands : l.news.control ≡ stands_of l.control.owes_drain l.control.stage;
}
