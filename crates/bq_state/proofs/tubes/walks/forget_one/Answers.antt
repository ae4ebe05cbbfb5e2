use Rattle.bq_state.proofs.GoneLemmas.{gone_has_none}
use Rattle.bq_state.proofs.tubes.walks.forget_one.Goals as goal

pub drop_tube-requires-clause-none : goal.drop_tube-requires-clause-none
drop_tube-requires-clause-none c = rw c.name.ensures (gone_has_none _ _ _ c.requires.tallies c.if-is_gone.ensures)
