use Rattle.bq_line.specs.Streams.{StaysOver}
use Rattle.bq_host.specs.Hubs.{IsInOrderFor}
use Rattle.bq_run_one.proofs.AloneLemmas.{IsServingAlone}
use Rattle.bq_run_one.proofs.one.serve_line.Given as goal

abbrev pub invariant-loop : goal.invariant-loop
invariant-loop g l = record {
  iterator : (goal.iterator-loop g).can_next l.iterator' × (goal.iterator-loop g).is_finite l.iterator';
  serves : IsServingAlone g.K.QueueCore g.C.Clock l.fn.hub 0 l.hub l.machine (g.L.Line.seen l.line) l.action l.sent;
  stays : StaysOver g.L.Line.lies_over l.fn.line l.line;
  ready : IsInOrderFor g.K.QueueCore 0 l.hub;
}
