-- What is kept after a job was handed out, or was not.
use Rattle.std.{proofs.{Common.{Err, List, None, Ok, Option, Some, arith, ℕ, ◌≡◌}, lemmas.Grind.common_steps}, specs.Option.option_map}
use Rattle.std.specs.Prelude.{Result}
use Rattle.bq_job.specs.machine.{job_with}
use Rattle.bq_jobs.specs.{Changed.moved_by, JobsSeen.JobsSeen, Numbering.HasNumber, Sharing.SharesAndChanges}
use Rattle.bq_jobs.specs.declared.numbered_jobs.JobMove.{JobMove}
use Rattle.bq_state.{proofs.{KnowledgeLemmas.sound_with_moved, NamedLemmas.records_moved}, specs.{CoreParts.fields, HandOuts.CountsIf}}
use Rattle.bq_state.specs.{HandOuts.{HandsOutTo, body_in}, JobChanges.changed, Soundness.Soundness, TubesSeen.TubesSeen}
use Rattle.bq_state.specs.declared.{core_parts.CoreParts.CoreParts, job_store.JobChange.{JobChange, TheVariants.HandOut}, known.Known.Known}

module _ (st : CoreParts) (seat id : ℕ) where
  abbrev what : JobChange
  what = HandOut seat st.moment

  abbrev IsReported : List ℕ × JobMove → Type 0
  IsReported r = (Some r.1 ≡ option_map (moved_by (changed what)) (job_with id st.store.jobs.jobs))
      × HasNumber r.1.tube r.0 st.store.tubes.numbers

  abbrev Shared : Type 0 → Type 0
  Shared E = Option (Result ((List ℕ × JobMove) × List ℕ) E)

  module _ (jobs : JobsSeen) (known : Known) (tubes : TubesSeen) where
    -- The parts still agree,
    pub sound_then : {E : Type 0} (r : Shared E) → SharesAndChanges IsReported id (changed what) r st.store.jobs jobs
        → CountsIf r st.waiting st.seats.items st.known known st.store.tubes tubes
        → Soundness jobs.jobs st.seats.items tubes st.waiting known st.next_id st.draining
    sound_then None c n = let same : jobs.jobs ≡ st.store.jobs.jobs = grind arith in rw (same, n.0, n.1) st.sound
    sound_then (Some (Err e)) c n = let same : jobs.jobs ≡ st.store.jobs.jobs = grind arith in rw (same, n.0, n.1) st.sound
    sound_then (Some (Ok s)) c n = rw (c.1.jobs, n.0, n.1) (sound_with_moved st id what s.0.1 c.1.ordered c.0.0)

    module _ (new : CoreParts) (is : fields new ≡ record (fields st) { jobs = jobs; known = known; tubes = tubes }) where
      -- The job was handed out, or nothing was changed.
      pub handed_out : {E : Type 0} (r : Shared E) → SharesAndChanges IsReported id (changed what) r st.store.jobs jobs
          → CountsIf r st.waiting st.seats.items st.known known st.store.tubes tubes → HandsOutTo seat id (body_in r) st new
      handed_out r c n = grind (arith, common_steps, records_moved)
