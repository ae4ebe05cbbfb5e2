use Rattle.bq_line.specs.Tending.{IsTended, door_seen}
use Rattle.bq_link.specs.EndStates.{IsSameSeat}
use Rattle.bq_thread_work.proofs.seat_work.seat_work.Given as goal

abbrev pub invariant-loop : goal.invariant-loop
invariant-loop g l = record {
  iterator : (goal.iterator-loop g).can_next l.iterator' × (goal.iterator-loop g).is_finite l.iterator';
  same : IsSameSeat l.fn.end l.end;
  tended : IsTended g.L.Line.seen l.fn.machine.reader.max_job_size l.attendant
      (door_seen g.D.Door l.door) l.end.submitted l.end.taken;
  door : g.D.Door.same l.fn.door l.door;
}
