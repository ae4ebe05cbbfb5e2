use Rattle.bq_state.proofs.GoneLemmas.{found_has_none}
use Rattle.bq_state.proofs.tubes.walks.forget_all.Goals as goal

pub drop_tube-requires-clause-none : goal.drop_tube-requires-clause-none
drop_tube-requires-clause-none c = found_has_none _ _ _ _ c.loop-name.invariant.tallies c.in-Some.ensures
