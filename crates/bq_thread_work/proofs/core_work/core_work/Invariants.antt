use Rattle.bq_link.specs.EndStates.{IsSameCore}
use Rattle.bq_thread_work.specs.Worked.{IsAtWork, IsInOrder}
use Rattle.bq_thread_work.proofs.core_work.core_work.Given as goal

abbrev pub invariant-loop : goal.invariant-loop
invariant-loop g l = record {
  iterator : (goal.iterator-loop g).can_next l.iterator' × (goal.iterator-loop g).is_finite l.iterator';
  order : IsInOrder g.K.QueueCore.machine l.driver;
  end : IsSameCore l.fn.end l.driver.sender.end;
  work : IsAtWork g.K.QueueCore g.C.Clock (g.K.QueueCore.machine l.fn.core).settings (g.K.QueueCore.comparisons l.fn.core) l.fn.clock
      l.driver;
}
