use Rattle.std.proofs.Common.{◌≡◌, ◌≤◌, ◌++◌, ◌-◌, ℕ, List, length, take}
use Rattle.bq_wire.specs.HasRead.{HasRead}
use Rattle.bq_wire.specs.declared.reader.ReaderPlace.TheVariants.{Over}
use Rattle.bq_wire.proofs.reader.feed_all.Given as goal

abbrev pub invariant-loop-request : goal.invariant-loop-request
invariant-loop-request l = record {
  within : l.from ≤ length l.piece;
  limit : l.reader.max_job_size ≡ l.fn.reader.max_job_size;
  reads : (taken : List ℕ) → HasRead l.fn.reader taken l.fn.requests.items
      → HasRead l.reader (taken ++ take l.from l.piece) l.requests.items;
  over : l.fn.reader.place ≡ Over → (l.reader ≡ l.fn.reader) × (l.requests.items ≡ l.fn.requests.items);
}

abbrev pub decreases-loop-request : goal.decreases-loop-request
decreases-loop-request l = length l.piece - l.from
