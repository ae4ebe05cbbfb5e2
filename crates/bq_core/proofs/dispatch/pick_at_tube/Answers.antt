use Rattle.std.proofs.Common.{false, true, ◌≡◌}
use Rattle.bq_core.proofs.DispatchLemmas.{none_picked, picked_at_tube}
use Rattle.bq_core.proofs.dispatch.pick_at_tube.Goals as goal

pub returns-in_err-seat-clause-some : goal.returns-in_err-seat-clause-some
returns-in_err-seat-clause-some c = absurd (let e : false ≡ true = none_picked c.args.state.now _ c.requires.next
    _ c.as_slice.ensures.value _ _ c.name.ensures c.in_ok-tube.ensures.tube c.in_err-seat.ensures in cc)

pub returns-clause-picked : goal.returns-clause-picked
returns-clause-picked c = picked_at_tube c.args.state.now _ c.requires.next _ c.as_slice.ensures.value _ _ c.name.ensures
    c.in_ok-tube.ensures.tube _ c.in_ok-seat.ensures
