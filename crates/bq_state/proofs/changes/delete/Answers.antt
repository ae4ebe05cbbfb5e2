use Rattle.bq_state.{proofs.KnowledgeLemmas.{deleted_is, sound_without_job}, specs.JobChanges.passes}
use Rattle.bq_state.proofs.changes.delete.Goals as goal

pub invariant_of-state-2 : goal.invariant_of-state-2
invariant_of-state-2 c =
    let told = rw (c.let_room_go.ensures.same, c.in-Some.ensures.tubes) at c.edit_entry-has_seats.ensures.told in
    rw (
      c.count_removal.ensures,
      c.edit_entry-has_seats.ensures.after,
      c.let_room_go.ensures.same,
      c.in-Some.ensures.tubes,
      c.in-Some.ensures.left.0,
    ) (record { sound = sound_without_job c.args.state.now c.args.id (passes c.args.test) _ c.in-Some.ensures.removed _ told })

pub returns-clause-after : goal.returns-clause-after
returns-clause-after c =
    rw (
      c.edit_entry-has_seats.ensures.after,
      c.let_room_go.ensures.same,
      c.in-Some.ensures.tubes,
      c.in-Some.ensures.left.0,
    ) (deleted_is c.args.state.now c.args.id (passes c.args.test) _ c.in-Some.ensures.removed)
