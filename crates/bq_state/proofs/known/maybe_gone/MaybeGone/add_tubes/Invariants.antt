-- those of the tubes so far may have gone
use Rattle.std.proofs.Common.{take, ◌≡◌}
use Rattle.bq_state.specs.Leaving.{gone_all}
use Rattle.bq_state.proofs.known.maybe_gone.MaybeGone.add_tubes.Given as goal

abbrev pub invariant-loop-i : goal.invariant-loop-i
invariant-loop-i l = l.self ≡ gone_all l.store.tubes (take l.i l.watched) l.fn.self
