use Rattle.std.proofs.{Common.{[], ap, arith, length, refl, rules, set, ◌++◌, ◌∷◌, ◌≤◌}, lemmas.Option.get_or_from_slice_get}
use Rattle.std.proofs.lemmas.Option.{slice_get_read}
use Rattle.bq_job.specs.machine.{Machine.Machine, greatest, watching}
use Rattle.bq_state.proofs.{KnowledgeLemmas.sound_watching, NamedLemmas.records_counting, PartsLemmas.{changed_there, seat_read}}
use Rattle.bq_state.proofs.PartsLemmas.{seat_there}
use Rattle.bq_state.proofs.changes.watch_tube.Goals as goal

pub returns-in-Ok-clause-count : goal.returns-in-Ok-clause-count
returns-in-Ok-clause-count c s found = grind (arith, seat_there _ _ _ c.args.state.now.sound.numbered found)

pub returns-in-Ok-clause-watched : goal.returns-in-Ok-clause-watched
returns-in-Ok-clause-watched c s found =
    let st = c.args.state.now in
    let p = c.in_ok-number.ensures in
    let here = seat_there st.seats.items c.args.seat s st.sound.numbered found in
    let change = watching (s.watched ++ c.args.tube.now ∷ []) in
    rw (
      c.recount.ensures,
      records_counting,
      c.in-Ok.ensures.watched s (rw p.seats here),
      c.new-watched.ensures,
      p.seats,
      changed_there _ _ _ change st.sound.numbered here,
    )
    (ap (λ (m : Machine). record m { seats = set st.seats.items c.args.seat (change s) }) p.after)

pub returns-in-Ok-clause-wanted : goal.returns-in-Ok-clause-wanted
returns-in-Ok-clause-wanted c s found rests = search (rules, get_or_from_slice_get, seat_there)

pub invariant_of-state : goal.invariant_of-state
invariant_of-state c =
    let mid = c.provide_tube.new.state in
    let p = c.in_ok-number.ensures in
    let n = c.args.seat in
    let name = c.args.tube.now in
    let t = c.index.result.now in
    let here = slice_get_read mid.seats.items _ n t refl (omega arith) (rw c.from-2.ensures at c.index.ensures) in
    let fresh = c.requires.fresh t (rw p.seats at (seat_read mid.seats.items n t mid.sound.numbered here)) in
    let few : length mid.seats.items ≤ greatest = omega (arith, c.len.ensures) in
    grind (arith, sound_watching mid name n t here few fresh p.entry)
