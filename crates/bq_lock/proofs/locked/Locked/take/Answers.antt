use Rattle.std.proofs.Common.{arith}
use Rattle.bq_job.proofs.LawfulLemmas.{few_answers}
use Rattle.bq_lock.specs.LockedState.{locked_of}
use Rattle.bq_lock.proofs.LockedLemmas.{hold_step, stepped}
use Rattle.bq_lock.proofs.locked.Locked.take.Goals as goal

pub deliver-requires-clause-room : goal.deliver-requires-clause-room
deliver-requires-clause-room g c =
    let few = few_answers _ _ c.args.at c.args.seat c.args.what _ _ c.self.invariant.0.lawful c.step_in_place.ensures.step in
    let room = c.self.invariant.2 in omega (arith, few, room)

pub returns-clause-taken : goal.returns-clause-taken
returns-clause-taken g c =
    let machine = g.K.QueueCore.machine in
    rw c.self.view_is
    at (stepped c.args.copy
    (locked_of (machine c.self.inside.core) c.self.inside.outboxes.mails.items c.self.inside.outboxes.answered.items c.self.inside.journal)
    (locked_of (machine c.step_in_place.new.self) c.deliver.new.self.mails.items c.deliver.new.self.answered.items c.note.new.self)
    c.args.at c.args.seat c.args.what c.step_in_place.new.outs.left_out c.step_in_place.new.outs.unshared c.step_in_place.new.outs.given
    c.step_in_place.ensures.step c.deliver.ensures.delivered c.deliver.ensures.answered c.requires.same
    (rw (← c.self.view_is) at c.requires.room) c.note.ensures.without c.note.ensures.added)

pub invariant_of-self : goal.invariant_of-self
invariant_of-self g c =
    let taken = rw (← c.self.view_is) at (returns-clause-taken g c) in
    let holds = hold_step _ _ _ _ _ _ c.self.invariant.0 c.step_in_place.ensures.lawful c.step_in_place.ensures.settings taken in
    grind arith

pub returns-clause-holds : goal.returns-clause-holds
returns-clause-holds g c = (invariant_of-self g c).0
