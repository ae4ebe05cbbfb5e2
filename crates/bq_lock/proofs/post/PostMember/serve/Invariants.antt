use Rattle.std.proofs.Common.{List}
use Rattle.bq_job.specs.declared.answer.Answer.{Answer}
use Rattle.bq_job.specs.declared.step.Step.{Step}
use Rattle.bq_line.specs.Tending.{IsTended, door_seen}
use Rattle.bq_lock.proofs.post.PostMember.serve.Given as goal

abbrev pub invariant-loop : goal.invariant-loop
invariant-loop g l = record {
  iterator : (goal.iterator-loop g).can_next l.iterator' × (goal.iterator-loop g).is_finite l.iterator';
  tended : (before : List Step) × (got : List Answer)
      × IsTended (g.L.Line.seen) l.fn.self.max_job_size l.attendant
      (door_seen g.D.Door l.door) before got;
  same : g.D.Door.same l.fn.self.door l.door;
}
