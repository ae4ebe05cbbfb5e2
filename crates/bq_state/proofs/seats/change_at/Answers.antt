use Rattle.std.proofs.Common.{arith, sym}
use Rattle.bq_state.proofs.SeatPlaces.{none_there}
use Rattle.bq_state.proofs.seats.change_at.Goals as goal

pub returns-in_default : goal.returns-in_default
returns-in_default c =
    let past = c.in_default.ensures.item.3 in
    sym (none_there _ _ _ c.requires (let k = c.from.ensures in omega arith))
