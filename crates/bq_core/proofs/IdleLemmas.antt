-- A state where no client may have a job.
use Rattle.std.{proofs.Common.{None, ap, false, sym, true, ◌≡◌}, specs.{List.list_any, Option.option_map}}
use Rattle.bq_core.proofs.TurnLemmas.{no_next_job, no_ready_job}
use Rattle.bq_job.specs.{declared.job.Job.Job, machine.{is_ready, is_waiting, next_job}}
use Rattle.bq_state.{proofs.WantedLemmas.none_known, specs.{CoreParts.machine_of, WantedJobs.is_nothing}}
use Rattle.bq_state.specs.declared.core_parts.CoreParts.{CoreParts}

-- If that is known, there is no next job.
pub none_next : (st : CoreParts) → true ≡ is_nothing st.known.wanted → next_job (machine_of st) ≡ None
none_next st nothing = none_known st.known.wanted (machine_of st) (sym nothing) st.sound.known.wanted_jobs

-- If no job is ready, or no client waits, there is none either.
pub none_ready : (st : CoreParts) → false ≡ list_any is_ready st.store.jobs.jobs → next_job (machine_of st) ≡ None
none_ready st none = no_ready_job (machine_of st) (sym none)

pub no_id_ready : (st : CoreParts) → false ≡ list_any is_ready st.store.jobs.jobs → None ≡ option_map (λ j. j.id) (next_job (machine_of st))
no_id_ready st none = sym (ap (option_map (λ (j : Job). j.id)) (none_ready st none))

pub no_id_waited : (st : CoreParts) → false ≡ list_any is_waiting st.seats.items → None ≡ option_map (λ j. j.id) (next_job (machine_of st))
no_id_waited st none = sym (ap (option_map (λ (j : Job). j.id)) (no_next_job (machine_of st) (sym none)))
