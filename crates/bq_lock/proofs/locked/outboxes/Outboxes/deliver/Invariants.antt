use Rattle.std.proofs.Common.{◌≡◌, ◌≤◌, length}
use Rattle.std.specs.Vec.{vec_capacity}
use Rattle.bq_lock.proofs.DeliveryLemmas.{IsDelivering}
use Rattle.bq_lock.proofs.locked.outboxes.Outboxes.deliver.Given as goal

abbrev pub invariant-loop-seat : goal.invariant-loop-seat
invariant-loop-seat l = record {
  delivering : IsDelivering l.fn.outs.given l.fn.self.mails.items l.outs.given l.self.answered.items l.self.mails.items;
  room : vec_capacity l.fn.self.answered ≤ vec_capacity l.self.answered;
  outs : l.outs ≡ record l.fn.outs { given = l.outs.given };
}

abbrev pub decreases-loop-seat : goal.decreases-loop-seat
decreases-loop-seat l = length l.outs.given
