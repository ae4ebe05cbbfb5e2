use Rattle.std.proofs.Common.{◌≡◌, ◌≤◌, ◌+◌, ◌++◌, length}
use Rattle.bq_thread_work.specs.Sending.{AreSent, AreStuck, HasPlaces}
use Rattle.bq_thread_work.proofs.core_work.sender.Sender.try_again.Given as goal

abbrev pub invariant-loop-seat : goal.invariant-loop-seat
invariant-loop-seat l = record {
  places : HasPlaces l.self;
  few : length l.self.kept.items + length l.self.aside.items ≤ l.self.ends;
  ends : l.self.ends ≡ l.fn.self.ends;
  sent : AreSent l.fn.self.end l.fn.self.kept.items l.self.end (l.self.kept.items ++ l.self.aside.items);
  stuck : AreStuck l.self.end l.self.kept.items;
}

abbrev pub decreases-loop-seat : goal.decreases-loop-seat
decreases-loop-seat l = length l.self.aside.items
