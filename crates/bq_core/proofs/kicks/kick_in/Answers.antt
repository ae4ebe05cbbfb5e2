use Rattle.std.proofs.Common.{ap}
use Rattle.bq_core.proofs.CostLemmas.{kicked_changed}
use Rattle.bq_job.specs.machine.Machine.{Machine}
use Rattle.bq_core.proofs.kicks.kick_in.Goals as goal

pub returns-clause-changed : goal.returns-clause-changed
returns-clause-changed c =
    let same = c.list_to_kick-list.ensures.kept.same in
    let made = ap (λ (x : Machine). x.jobs) c.kick_some.ensures.kicked in
    let few = rw (made, same) at c.kick_some.ensures.fewer in
    rw (made, same) (kicked_changed _ _ c.list_to_kick-list.ensures.out _ _ _ _ _ c.args.state.now.sound.ids few)

pub returns-clause-kicked : goal.returns-clause-kicked
returns-clause-kicked c =
    let same = c.list_to_kick-list.ensures.kept.same in
    rw (same, c.list_to_kick-list.ensures.order) at c.kick_some.ensures.kicked

pub returns-clause-count : goal.returns-clause-count
returns-clause-count c =
    let same = c.list_to_kick-list.ensures.kept.same in
    rw (same, c.list_to_kick-list.ensures.order) at c.kick_some.ensures.count
