use Rattle.bq_line.proofs.ToldLemmas.{Submitted}
use Rattle.bq_line.proofs.control.submit_control.Given as goal

abbrev pub invariant-loop : goal.invariant-loop
invariant-loop g l = record {
  iterator : (goal.iterator-loop g).can_next l.iterator' × (goal.iterator-loop g).is_finite l.iterator';
  ready : g.K.ControlLink.is_ready l.link;
  submitted : Submitted g.I.ControlInput (g.I.ControlInput.remaining l.fn.input) (g.I.ControlInput.may_fail l.fn.input)
      g.K.ControlLink.trace l.fn.link l.link l.steps;
}
