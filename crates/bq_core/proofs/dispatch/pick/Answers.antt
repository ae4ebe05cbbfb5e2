use Rattle.std.proofs.Common.{false, true, ◌≡◌}
use Rattle.bq_core.proofs.DispatchLemmas.{none_picked, picked_at_tube, taker_picked, tube_of_next}
use Rattle.bq_core.proofs.dispatch.pick.Goals as goal

pub returns-in_ok-shared-in-Client-clause-picked : goal.returns-in_ok-shared-in-Client-clause-picked
returns-in_ok-shared-in-Client-clause-picked c = taker_picked c.args.state.now _ c.in-Client.is

pub returns-in_err-seat-in-Tube-clause-some : goal.returns-in_err-seat-in-Tube-clause-some
returns-in_err-seat-in-Tube-clause-some c =
    let at = tube_of_next c.args.state.now _ c.requires.next _ c.in-Tube.is in
    absurd (let e : false ≡ true = none_picked c.args.state.now _ c.requires.next _ c.as_slice.ensures.value _ _ c.name.ensures at
    c.in_err-seat-in-Tube.ensures in cc)

pub returns-in_ok-shared-in-Tube-clause-picked : goal.returns-in_ok-shared-in-Tube-clause-picked
returns-in_ok-shared-in-Tube-clause-picked c =
    let at = tube_of_next c.args.state.now _ c.requires.next _ c.in-Tube.is in
    picked_at_tube c.args.state.now _ c.requires.next _ c.as_slice.ensures.value _ _ c.name.ensures at _ c.in_ok-seat-in-Tube.ensures
