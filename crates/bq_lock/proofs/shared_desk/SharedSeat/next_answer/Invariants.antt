use Rattle.bq_lock.proofs.shared_desk.SharedSeat.next_answer.Given as goal

abbrev pub decreases-loop-left : goal.decreases-loop-left
decreases-loop-left g l = l.left
