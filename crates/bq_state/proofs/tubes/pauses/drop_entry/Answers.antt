use Rattle.std.proofs.Common.{None, arith, refl}
use Rattle.bq_state.proofs.EndMoves.{ends_moved, moves_left}
use Rattle.bq_state.proofs.tubes.pauses.drop_entry.Goals as goal

pub returns-clause-ends : goal.returns-clause-ends
returns-clause-ends c =
    let from = c.end_of-from.ensures in
    let moves = moves_left _ _ _ from.ordered from.apart c.remove.ensures.entries c.remove.ensures.numbers in
    ends_moved _ _ None _ _ _ _ _ None c.requires moves from.end refl c.leave.ensures.entries c.leave.ensures.ordered
    c.leave.ensures.spare _ refl (omega arith)
