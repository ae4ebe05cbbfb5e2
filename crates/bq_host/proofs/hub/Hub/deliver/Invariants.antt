use Rattle.std.proofs.Common.{◌≡◌, length}
use Rattle.bq_host.specs.Hubs.{OnlyMoves, state_of}
use Rattle.bq_host.specs.MailStates.{OnlyDelivers}
use Rattle.bq_host.specs.WakeLists.{Wakes}
use Rattle.bq_host.proofs.hub.Hub.deliver.Given as goal

abbrev pub invariant-loop-seat : goal.invariant-loop-seat
invariant-loop-seat g l = record {
  delivered : OnlyDelivers (state_of g.K.QueueCore l.fn.self) (state_of g.K.QueueCore l.self);
  clock : l.self.timed.time.clock ≡ l.fn.self.timed.time.clock;
  only : OnlyMoves l.fn.self l.self;
  wakes : Wakes l.fn.self.mails.items l.self.mails.items l.fn.self.wake_queue l.self.wake_queue;
}

abbrev pub decreases-loop-seat : goal.decreases-loop-seat
decreases-loop-seat g l = length (state_of g.K.QueueCore l.self).pending
