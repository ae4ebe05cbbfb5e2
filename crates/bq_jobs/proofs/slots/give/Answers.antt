use Rattle.std.proofs.Common.{arith}
use Rattle.bq_jobs.proofs.FreeLemmas.{slot_added, slots_used, names_many, first_given}
use Rattle.bq_jobs.proofs.slots.give.Goals as goal

pub returns-then-not-is_free-clause-reused : goal.returns-then-not-is_free-clause-reused
returns-then-not-is_free-clause-reused g c = grind (arith, slots_used c.args.slots.now.items c.args.free.now c.requires.chained)

pub returns-then-not-is_free-clause-chained : goal.returns-then-not-is_free-clause-chained
returns-then-not-is_free-clause-chained g c =
    let used = slots_used c.args.slots.now.items c.args.free.now c.requires.chained
    (rw c.as_slice.ensures.value at (c.is_free.ensures.used c.if-not-is_free.true)) in
    slot_added c.args.slots.now.items c.args.free.now c.requires.chained c.append.new.slots.items c.args.name.now c.append.result used
    c.append.ensures.given c.append.ensures.last c.append.ensures.longer c.append.ensures.same

pub returns-clause-chained : goal.returns-clause-chained
returns-clause-chained g c = grind (arith, first_given, names_many)
