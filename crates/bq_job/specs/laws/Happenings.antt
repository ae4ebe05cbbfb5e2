-- What happens to jobs in a run: one ordered list of happenings, and the model after each part of a
-- step.
use Rattle.std.specs.Prelude.{ℕ, ◌==◌, if◌then◌else◌, is_none, Option, Some, None, List, [], ◌∷◌, ◌++◌, map, filter, flat_map}
use Rattle.bq_job.specs.machine.{GivenAnswer, Machine.Machine, after_timers, at_moment, forgetting, is_expired, job_with}
use Rattle.bq_job.specs.{promise.Transition, Types.{Answer, Job, JobState, Step}}
use Rattle.bq_job.specs.declared.answer.Answer.TheVariants as answers
use Rattle.bq_job.specs.declared.job.JobState.TheVariants as states
use Rattle.bq_job.specs.declared.request.Request.TheVariants as requests
use Rattle.bq_job.specs.declared.step.Step.TheVariants as steps

-- what can happen to a job; a put carries the job, all others its id
pub data Happening : Type 0 where
  -- Its put was accepted; this is the new job.
  put : Job → Happening
  -- Dispatch gave it to a waiting client.
  handed_out : ℕ → Happening
  -- A client reserved it by reserve-job.
  reserved_by_id : ℕ → Happening
  -- Its time to run expired while a client held it.
  expired : ℕ → Happening
  -- Its holder released it, buried it, or disconnected.
  released buried given_back : ℕ → Happening
  deleted : ℕ → Happening

-- by timers: each reservation whose time to run has expired
abbrev pub expirations : ℕ → List Job → List Happening
expirations moment jobs = map (λ j. expired j.id) (filter (λ j. is_expired moment j.state) jobs)

abbrev pub hand_out : Answer → List Happening
hand_out (answers.Reserved id body) = handed_out id ∷ []
hand_out _ = []

-- by dispatch: each RESERVED among its answers, in order
abbrev pub hand_outs : List GivenAnswer → List Happening
hand_outs given = flat_map (λ g. hand_out g.1) given

-- It happens only to the job that the command names.
abbrev pub named : ℕ → ℕ → Happening → List Happening
named other id happening = if other == id then happening ∷ [] else []

-- A job that is no longer held was lost by a close, or released or buried by the command of that
-- name.
abbrev pub given_up : Step → ℕ → List Happening
given_up steps.Close id = given_back id ∷ []
given_up (steps.Ask (requests.Release other pri delay)) id = named other id (released id)
given_up (steps.Ask (requests.Bury other pri)) id = named other id (buried id)
given_up _ id = []

-- A job that is held now was reserved by reserve-job.
abbrev pub taken_up : Step → ℕ → List Happening
taken_up (steps.Ask (requests.ReserveJob other)) id = named other id (reserved_by_id id)
taken_up _ id = []

-- A job that no longer exists was deleted by a delete.
abbrev pub removed : Step → ℕ → List Happening
removed (steps.Ask (requests.Delete other)) id = named other id (deleted id)
removed _ id = []

-- by a command, to a job that goes from the first state to the second
abbrev pub change : Step → ℕ → JobState → JobState → List Happening
change what id (states.Reserved seat deadline) (states.Reserved holder until) = []
change what id (states.Reserved seat deadline) state = given_up what id
change what id before (states.Reserved seat deadline) = taken_up what id
change what id before state = []

-- by a command, to a job that existed before
abbrev pub change_or_removal : Step → Job → Option Job → List Happening
change_or_removal what j None = removed what j.id
change_or_removal what j (Some k) = change what j.id j.state k.state

-- by a command: what happened to each job that existed before, and to each new job
abbrev pub changes : Step → List Job → List Job → List Happening
changes what before after =
    flat_map (λ j. change_or_removal what j (job_with j.id after)) before
    ++ map put (filter (λ j. is_none (job_with j.id before)) after)

-- a part of a step: what happened to jobs in it, and the model after it
pub record Part : Type 0 where
  pub happened : List Happening
  pub machine : Machine

-- the parts of a step: timers, dispatch, ends of waits, the command's own effect, then dispatch and
-- ends of waits again
abbrev pub parts_in : Transition → List Part
parts_in t =
    let timed = forgetting (after_timers (at_moment t.entry.moment t.first)) in
    record { happened = expirations timed.moment t.first.jobs; machine = timed }
    ∷ record { happened = hand_outs t.parts.handed; machine = t.parts.between }
    ∷ record { happened = []; machine = t.parts.before }
    ∷ record { happened = changes t.entry.what t.parts.before.jobs t.parts.after.jobs; machine = t.parts.after }
    ∷ record { happened = hand_outs t.parts.handed_then; machine = t.parts.between_then }
    ∷ record { happened = []; machine = t.last }
    ∷ []

-- the parts of all steps of a run
abbrev pub parts_of_run : List Transition → List Part
parts_of_run taken = flat_map parts_in taken

-- what happened to jobs in these parts
abbrev pub happenings : List Part → List Happening
happenings parts = flat_map (λ p. p.happened) parts
