-- the tubes of the names so far
use Rattle.std.proofs.Common.{take, ◌≡◌}
use Rattle.bq_state.specs.TubesSeen.{entry_recounted, with_entries}
use Rattle.bq_state.proofs.roles.recount_all.Given as goal

abbrev pub invariant-loop-i : goal.invariant-loop-i
invariant-loop-i l =
    l.store ≡ record l.fn.store { tubes = with_entries (take l.i l.watched) (entry_recounted l.how l.roles) l.fn.store.tubes }
