use Rattle.std.proofs.Common.{arith}
use Rattle.bq_thread_work.specs.Worked.{driver_state}
use Rattle.bq_thread_work.proofs.WorkedLemmas.{worked_all}
use Rattle.bq_thread_work.proofs.core_work.core_work.Goals as goal

pub returns-then-turn-clause-ran : goal.returns-then-turn-clause-ran
returns-then-turn-clause-ran g c =
    let machine = g.K.QueueCore.machine in
    let driver = c.turn.new.self in
    let settings = (machine c.args.core).settings in
    let from = g.K.QueueCore.comparisons c.args.core in
    let parts = c.into_parts.ensures in
    let over = c.turn.ensures.over c.if-turn.true in
    let order = c.turn.ensures.on.order in
    let work = c.turn.ensures.on.work settings from c.args.clock c.loop.invariant.work in
    let done = worked_all settings from work.0 (driver_state g.K.QueueCore driver) work.2 over.none_pending (grind arith) (grind arith)
    over.all_gone in
    (work.0, rw parts.2 work.1, rw (parts.0, parts.1) done)

pub loop-preserved : goal.loop-preserved
loop-preserved g c =
    let work = c.turn.ensures.on.work _ _ _ c.loop.invariant.work in
    grind arith
