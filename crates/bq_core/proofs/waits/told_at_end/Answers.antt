use Rattle.bq_core.proofs.WaitLemmas.{told_now}
use Rattle.bq_core.proofs.waits.told_at_end.Goals as goal

pub returns-then-is_deadline_soon-clause-told : goal.returns-then-is_deadline_soon-clause-told
returns-then-is_deadline_soon-clause-told c s found = rw c.if-is_deadline_soon.true at
    (told_now c.args.state.now c.args.k _ s _ _ _ _ c.requires.seat c.index.ensures c.index-2.ensures found c.number-number.ensures
    c.is_deadline_soon.ensures.soon c.is_timed_out-is_over.ensures)

pub returns-then-is_over-clause-told : goal.returns-then-is_over-clause-told
returns-then-is_over-clause-told c s found = rw (c.if-is_deadline_soon.false, c.if-is_over.true) at
    (told_now c.args.state.now c.args.k _ s _ _ _ _ c.requires.seat c.index.ensures c.index-2.ensures found c.number-number.ensures
    c.is_deadline_soon.ensures.soon c.is_timed_out-is_over.ensures)

pub returns-else-is_over-clause-told : goal.returns-else-is_over-clause-told
returns-else-is_over-clause-told c s found = rw (c.if-is_deadline_soon.false, c.if-is_over.false) at
    (told_now c.args.state.now c.args.k _ s _ _ _ _ c.requires.seat c.index.ensures c.index-2.ensures found c.number-number.ensures
    c.is_deadline_soon.ensures.soon c.is_timed_out-is_over.ensures)
