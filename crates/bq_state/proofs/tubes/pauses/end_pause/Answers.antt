use Rattle.std.proofs.Common.{rules}
use Rattle.bq_state.proofs.EndMoves.{over_ends, over_entries, over_fewer}
use Rattle.bq_state.proofs.tubes.pauses.end_pause.Goals as goal

pub returns-clause-kept : goal.returns-clause-kept
returns-clause-kept c = search (rules, over_entries)

pub returns-clause-fewer : goal.returns-clause-fewer
returns-clause-fewer c = search (rules, over_fewer)

pub returns-clause-ends : goal.returns-clause-ends
returns-clause-ends c = over_ends _ _ _ _ _ _ c.requires.ends c.edit-ended.ensures.ordered c.tube_of-tube.ensures.apart
    c.requires.first c.tube_of-tube.ensures.number c.edit-ended.ensures.tubes (rw c.name.ensures at c.edit-ended.ensures.entries)
    _ c.leave.ensures.entries c.requires.ordered c.leave.ensures.spare
