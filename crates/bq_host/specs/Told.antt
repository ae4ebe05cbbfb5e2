-- What is logged about the core's steps.
use Rattle.std.specs.Prelude.{ℕ, ◌≡◌, ◌||◌, ◌-◌, Bool, true, false, List, Option, None, Some, nat_le, if◌then◌else◌}
use Rattle.bq_job.specs.machine.Dispatch.{GivenAnswer}
use Rattle.bq_job.specs.declared.refusal.Refusal.TheVariants as refusals
use Rattle.bq_job.specs.declared.request.Request.TheVariants as requests
use Rattle.bq_job.specs.declared.step.Step.{Step}
use Rattle.bq_job.specs.declared.step.Step.TheVariants as steps
use Rattle.bq_core_api.specs.Answered.{has_inserted, has_out_of_memory}
use Rattle.bq_core_api.specs.Outbox.{Outbox}
use Rattle.bq_line.specs.declared.clock.Notice.{Notice}
use Rattle.bq_line.specs.declared.clock.Notice.TheVariants as notices
use Rattle.bq_host.specs.declared.notices.Concern.{Concern}
use Rattle.bq_host.specs.declared.notices.Concern.TheVariants as concerns
use Rattle.bq_host.specs.declared.notices.Notices.{Notices}
use Rattle.bq_host.specs.declared.notices.Unlogged.{Unlogged}

-- the kind of a step, as far as the log is concerned
abbrev pub concern_of : Step → Concern
concern_of steps.Drain = concerns.Drain
concern_of (steps.Ask (requests.Put pri delay ttr body)) = concerns.Put
concern_of (steps.Ask (requests.Refused refusals.OutOfMemory)) = concerns.Refused
concern_of _ = concerns.Other

-- Nothing was logged.
abbrev pub none_told : Notices
none_told = record { is_draining = false; refused = None; full = None }

-- The first drain is logged.
abbrev pub after_drain : Notices → Option Notice × Notices
after_drain told = if told.is_draining then (None, told) else (Some notices.Draining, record told { is_draining = true })

-- After a failed allocation: it is logged unless a shortage of memory is already in progress.
abbrev pub after_refusal : Option ℕ → ℕ → Notices → Option Notice × Notices
after_refusal None at told = (Some notices.MemoryRefused, record told { refused = Some at })
after_refusal (Some last) at told = (None, record told { refused = Some at })

-- A put for which no allocation failed ends a shortage of memory if none failed during the last second.
abbrev pub calmed : Option ℕ → ℕ → Notices → Notices
calmed None at told = told
calmed (Some last) at told = if nat_le 1000 (at - last) then record told { refused = None } else told

-- After a put that met the limit on jobs: it is logged unless the limit counts as reached already.
abbrev pub after_full : Option ℕ → ℕ → Notices → Option Notice × Notices
after_full None at told = (Some notices.JobLimitReached, record told { full = Some at })
after_full (Some last) at told = (None, record told { full = Some at })

-- A put that was stored ends that, which is logged, if no put met the limit during the last minute.
abbrev pub after_stored : Option ℕ → ℕ → Notices → Option Notice × Notices
after_stored None at told = (None, told)
after_stored (Some last) at told =
    if nat_le 60000 (at - last) then (Some notices.BelowJobLimit, record told { full = None }) else (None, told)

-- Only the answer to a put is INSERTED. If no allocation failed, OUT_OF_MEMORY is its answer too, at the limit on jobs.
abbrev pub after_answers : List GivenAnswer → ℕ → Notices → Option Notice × Notices
after_answers given at told =
    if has_inserted given then after_stored told.full at told
    else (if has_out_of_memory given then after_full told.full at told else (None, told))

-- what is logged after a put with these answers for which no allocation failed, and the new state of the log
abbrev pub after_put : List GivenAnswer → ℕ → Notices → Option Notice × Notices
after_put given at told = after_answers given at (calmed told.refused at told)

-- whether an allocation of the step failed
abbrev pub is_refused : Outbox → Bool
is_refused outs = outs.left_out || outs.unshared

-- What is logged after a step with these answers at this moment, and the new state of the log.
abbrev pub told_after : Concern → Outbox → ℕ → Notices → Option Notice × Notices
told_after concerns.Drain outs at told = after_drain told
told_after concerns.Refused outs at told = after_refusal told.refused at told
told_after concerns.Put outs at told = if is_refused outs then after_refusal told.refused at told else after_put outs.given at told
told_after concerns.Other outs at told = if is_refused outs then after_refusal told.refused at told else (None, told)

-- The new state of the log after a step with these answers, at this moment.
abbrev pub HasLogged : Concern → Outbox → ℕ → Notices → Notices → Type 0
HasLogged concern outs at told new = new ≡ (told_after concern outs at told).1

-- Nothing is to be logged.
abbrev pub none_unlogged : Unlogged
none_unlogged = record { drain = false; refusal = false; full = false; below = false }

-- what is to be logged, with one more notice if there is one
abbrev pub noted : Option Notice → Unlogged → Unlogged
noted None unlogged = unlogged
noted (Some notices.Draining) unlogged = record unlogged { drain = true }
noted (Some notices.MemoryRefused) unlogged = record unlogged { refusal = true }
noted (Some notices.JobLimitReached) unlogged = record unlogged { full = true }
noted (Some notices.BelowJobLimit) unlogged = record unlogged { below = true }
