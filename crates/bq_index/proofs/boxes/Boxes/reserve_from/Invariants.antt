use Rattle.std.proofs.Common.{◌+◌, ◌-◌, ◌<◌, ◌≤◌, ◌^◌, max}
use Rattle.bq_index.proofs.boxes.Boxes.reserve_from.Given as goal

abbrev pub invariant-loop-self : goal.invariant-loop-self
invariant-loop-self g l = record {
  not_fewer : l.fn.self ≤ l.self;
  no_more : l.self ≤ max l.n l.fn.self;
  fits : l.entries + l.self < 2 ^ 64;
}

abbrev pub decreases-loop-self : goal.decreases-loop-self
decreases-loop-self g l = l.n - l.self
