use Rattle.std.proofs.{Common.{arith, length, refl, ◌≤◌}, lemmas.Option.slice_get_read}
use Rattle.bq_job.specs.machine.{greatest, watching}
use Rattle.bq_state.proofs.{KnowledgeLemmas.sound_ignoring, NamedLemmas.records_counting, PartsLemmas.{changed_there, seat_there}}
use Rattle.bq_state.specs.SeatChanges.{fewer_watched}
use Rattle.bq_state.proofs.changes.ignore_tube.Goals as goal

pub returns-then-from-len-clause-after : goal.returns-then-from-len-clause-after
returns-then-from-len-clause-after c s found =
    let there = seat_there _ _ _ c.args.state.now.sound.numbered found in
    rw (
      c.recount.ensures,
      records_counting,
      c.ignore.ensures.ignored s there,
      changed_there _ _ _ (watching (fewer_watched c.args.tube.now s)) c.args.state.now.sound.numbered there,
    )

pub invariant_of-state : goal.invariant_of-state
invariant_of-state c =
    let st = c.args.state.now in
    let n = c.args.seat in
    let name = c.args.tube.now in
    let t = c.index.result.now in
    let here = slice_get_read st.seats.items _ n t refl (omega arith) (rw c.from-then-from-len.ensures at c.index.ensures) in
    let few : length st.seats.items ≤ greatest = omega (arith, c.len.ensures) in
    grind (arith, sound_ignoring st name n t here few)

pub returns-then-from-len-clause-count : goal.returns-then-from-len-clause-count
returns-then-from-len-clause-count c s found = c.ignore.ensures.count s (seat_there _ _ _ c.args.state.now.sound.numbered found)
