use Rattle.std.proofs.Common.{◌≡◌, ◌-◌, length}
use Rattle.bq_line.specs.LineParts.{bytes_up_to, open_place}
use Rattle.bq_line.proofs.line.mem_line.next_open.Given as goal

abbrev pub invariant-loop-at : goal.invariant-loop-at
invariant-loop-at l = record {
  same : bytes_up_to l.parts l.at l.from ≡ bytes_up_to l.parts l.place l.offset;
  on : open_place l.parts l.at l.from l.written ≡ open_place l.parts l.place l.offset l.written;
}

abbrev pub decreases-loop-at : goal.decreases-loop-at
decreases-loop-at l = length l.parts - l.at
