-- Kicking `bound` of the first jobs is kicking those of them that are left.
use Rattle.std.proofs.Common.{count_by, length, take, ℕ, ◌*◌, ◌+◌, ◌≡◌, ◌≤◌}
use Rattle.bq_core.specs.Kicking.{all_kicked, jobs_of}
use Rattle.bq_jobs.specs.Searching.{Asks}
use Rattle.bq_jobs.specs.Ranks.{is_listed}
use Rattle.bq_state.specs.CoreParts.{machine_of}
use Rattle.bq_core.proofs.kicks.kick_some.Given as goal

abbrev pub invariant-loop-done : goal.invariant-loop-done
invariant-loop-done l = record {
  kicked : (n : ℕ) → all_kicked (take (l.done + n) (jobs_of l.list l.tube (machine_of l.fn.state).jobs))
      (machine_of l.fn.state).jobs ≡ all_kicked (take n (jobs_of l.list l.tube (machine_of l.state).jobs)) (machine_of l.state).jobs;
  count : (n : ℕ) → length (take (l.done + n) (jobs_of l.list l.tube (machine_of l.fn.state).jobs)) ≡ l.done + length
      (take n (jobs_of l.list l.tube (machine_of l.state).jobs));
  others : machine_of l.state ≡ record (machine_of l.fn.state) { jobs = (machine_of l.state).jobs };
  fewer : count_by (is_listed l.list l.tube) (machine_of l.state).jobs + l.done
      ≤ count_by (is_listed l.list l.tube) (machine_of l.fn.state).jobs;
  asks : Asks (9 * l.done) l.fn.state.store.jobs l.state.store.jobs;
}
