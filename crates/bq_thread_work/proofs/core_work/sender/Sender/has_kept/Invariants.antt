use Rattle.std.proofs.Common.{◌≡◌}
use Rattle.std.specs.VecDeque.Iter.{deque_iter_rest}
use Rattle.bq_job.specs.promise.Runs.{answers_to}
use Rattle.bq_thread_work.proofs.core_work.sender.Sender.has_kept.Given as goal

abbrev pub invariant-loop-given : goal.invariant-loop-given
invariant-loop-given l = answers_to l.seat (deque_iter_rest l.given-iterator) ≡ answers_to l.seat l.self.kept.items
