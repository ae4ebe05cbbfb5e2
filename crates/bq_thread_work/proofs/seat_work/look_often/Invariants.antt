use Rattle.std.proofs.Common.{◌≡◌}
use Rattle.bq_thread_work.proofs.seat_work.look_often.Given as goal

abbrev pub invariant-loop : goal.invariant-loop
invariant-loop l = record { same : l.end ≡ l.fn.end; action : l.action ≡ l.fn.action }
