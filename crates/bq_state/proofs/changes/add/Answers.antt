use Rattle.std.proofs.Common.{arith}
use Rattle.bq_jobs.{proofs.Changes.added_within, specs.JobsSeen.with_added}
use Rattle.bq_state.proofs.{CountedLemmas.waiters_counted, KnowledgeLemmas.{sound_with_job, tube_then}, NamedLemmas.change_kept}
use Rattle.bq_state.{proofs.PartsLemmas.few_jobs, specs.TubesSeen.entry_with}
use Rattle.bq_state.specs.declared.tubes.entry.TubeChange.TheVariants.{CountPut}
use Rattle.bq_state.proofs.changes.add.Goals as goal

pub invariant_of-state : goal.invariant_of-state
invariant_of-state c =
    let st = c.args.state.now in
    let j = c.args.job in
    let ids = added_within 1 st.next_id j st.store.jobs.jobs c.requires.given.0 c.requires.given.1 c.requires.free st.sound.ids in
    let fits = few_jobs st.next_id (with_added j st.store.jobs.jobs) ids (rw c.add.ensures.jobs at c.add.ensures.ordered) in
    rw (
      c.add_job.ensures,
      c.is_wanted-is_wanted.ensures,
      c.name_of-name.ensures,
      c.of.ensures,
      waiters_counted j.tube st.store.tubes _ _ st.sound.counts st.sound.entries.of_seats st.sound.seated st.waiting st.sound.waiting,
      c.holder_waits-waits.ensures,
      c.as_slice.ensures.value,
      c.add.ensures.tubes,
      c.add.ensures.jobs,
    ) (record { sound = sound_with_job st j fits ids c.requires.entry })

pub returns-clause-after : goal.returns-clause-after
returns-clause-after c =
    let j = c.args.job in
    grind (arith, tube_then c.args.state.now j.tube (entry_with j) CountPut (change_kept CountPut) c.requires.entry)
