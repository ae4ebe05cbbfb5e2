use Rattle.std.proofs.{Common.{ap, arith, refl, sym, ◌∙◌, ◌≡◌}}
use Rattle.bq_core.proofs.ActLemmas.{acts_asked, put_done, used_has_entry}
use Rattle.bq_jobs.proofs.Changes.{low_below}
use Rattle.bq_state.specs.CoreParts.{machine_of, machine_of_fields}
use Rattle.bq_core.proofs.job_acts.put_shared.Goals as goal

pub add-requires : goal.add-requires
add-requires c =
    let made = c.new_job-job.ensures c.in-Some.client.now (sym c.used-tube.ensures) in
    grind (arith, low_below, used_has_entry)

pub returns-clause-acts : goal.returns-clause-acts
returns-clause-acts c = acts_asked _ _ _ _ _ _ _ c.requires.asks (λ s found.
    let m = machine_of c.args.state.now in
    let same = ap (λ h. h.seats) c.count_put.ensures in
    let used : s.used ≡ c.used-tube.result.now = let here = c.in-Some.ensures in cc in
    put_done m _ _ s _ _ _ _ _ _ _ c.requires.accepts c.requires.limit
    (ap machine_of_fields c.count_put.ensures ∙ rw (c.in-Ok.ensures.room.0, c.in-Ok.ensures.tubes) refl)
    refl refl (c.new_job-job.ensures s used) c.args.state.now.sound.ids
    (c.adds_at_the_end.ensures 1 _ _) c.add.ensures.after) c.inserted.ensures
