use Rattle.std.proofs.Common.{ap, find, ◌∙◌}
use Rattle.bq_state.{proofs.WalkLemmas.{first_read, next_waiter}, specs.WaitingList.is_waiter_after}
use Rattle.bq_core.proofs.waits.next_waiting.Goals as goal

pub returns-in-Some-clause-bound : goal.returns-in-Some-clause-bound
returns-in-Some-clause-bound c = rw c.from.ensures (first_read _ _ c.args.state.now.sound.numbered _ (c.in-Some.ensures
    ∙ ap (find (is_waiter_after c.args.last)) c.args.state.now.sound.waiting.waiters ∙ next_waiter _ _ c.args.state.now.sound.numbered)).1

pub returns-in-Some-clause-least : goal.returns-in-Some-clause-least
returns-in-Some-clause-least c = rw c.from.ensures (first_read _ _ c.args.state.now.sound.numbered _ (c.in-Some.ensures
    ∙ ap (find (is_waiter_after c.args.last)) c.args.state.now.sound.waiting.waiters ∙ next_waiter _ _ c.args.state.now.sound.numbered)).0
