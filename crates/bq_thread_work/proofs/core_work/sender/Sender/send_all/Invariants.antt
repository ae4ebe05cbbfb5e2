use Rattle.std.proofs.Common.{◌≡◌, ◌++◌, length}
use Rattle.bq_thread_work.specs.Sending.{AreSent, AreStuck, IsAtRest}
use Rattle.bq_thread_work.proofs.core_work.sender.Sender.send_all.Given as goal

abbrev pub invariant-loop-self : goal.invariant-loop-self
invariant-loop-self l = record {
  rest : IsAtRest l.self;
  ends : l.self.ends ≡ l.fn.self.ends;
  most : l.outs.most ≡ l.fn.outs.most;
  sent : AreSent l.fn.self.end (l.fn.self.kept.items ++ l.fn.outs.given) l.self.end (l.self.kept.items ++ l.outs.given);
  stuck : AreStuck l.self.end l.self.kept.items;
}

abbrev pub decreases-loop-self : goal.decreases-loop-self
decreases-loop-self l = length l.outs.given
