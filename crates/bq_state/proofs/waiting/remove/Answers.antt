use Rattle.std.{proofs.{Common.{ap, arith, sym, ◌==◌, ◌∙◌}, lemmas.Grind.common_steps}, specs.List.position}
use Rattle.bq_state.proofs.WaitingLemmas.{removed_found, removed_missed}
use Rattle.bq_state.proofs.waiting.remove.Goals as goal

pub returns-in-Some-clause-waiters : goal.returns-in-Some-clause-waiters
returns-in-Some-clause-waiters c = grind (arith, common_steps, removed_found)

pub returns-in_default-clause-waiters : goal.returns-in_default-clause-waiters
returns-in_default-clause-waiters c = sym (removed_missed _ _
    (c.in_default.ensures ∙ ap (position (λ t. t.1 == c.args.number)) c.as_slice.ensures.value))
