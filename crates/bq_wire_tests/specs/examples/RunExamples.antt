-- Short words for worked examples of runs: what happens to jobs, and in which order they are handed out.
use Rattle.std.specs.{List.AllByRecursion, Prelude.{◌∷◌, ◌≡◌, List, [], ℕ, flat_map}}
use Rattle.bq_job.specs.{beside.transitions, declared.job.Job.Job, laws.Happening}
use Rattle.bq_wire_tests.specs.examples.Examples.{connect, server}
use Rattle.bq_job.specs.{laws.{IsUndisturbed, handed_out, happenings, parts_of_run, put}, promise.{Entry, Transition}}

-- the steps of a server with three seats, once a client has connected to each of them at the moment
-- 0
abbrev pub taken : List Entry → List Transition
taken history = transitions (server 3 65535) (connect 0 ∷ connect 1 ∷ connect 2 ∷ history)

-- what happens to jobs in them
abbrev pub happening_in : List Entry → List Happening
happening_in history = happenings (parts_of_run (taken history))

abbrev pub job_put : Happening → List Job
job_put (put j) = j ∷ []
job_put _ = []

-- the jobs that were put, in order
abbrev pub jobs_put : List Happening → List Job
jobs_put happened = flat_map job_put happened

abbrev pub id_handed_out : Happening → List ℕ
id_handed_out (handed_out id) = id ∷ []
id_handed_out _ = []

-- the ids of the jobs that were handed out, in order
abbrev pub ids_handed_out : List Happening → List ℕ
ids_handed_out happened = flat_map id_handed_out happened

-- The jobs with these ids are handed out, in this order, and every job that is put is undisturbed.
abbrev pub HandsOutUndisturbed : List ℕ → List Entry → Type 0
HandsOutUndisturbed ids history =
    let happened = happening_in history in
    (ids_handed_out happened ≡ ids) × AllByRecursion (λ j. IsUndisturbed j happened) (jobs_put happened)

-- The jobs with these ids are handed out, in this order, and no job that is put is undisturbed.
abbrev pub HandsOutDisturbed : List ℕ → List Entry → Type 0
HandsOutDisturbed ids history =
    let happened = happening_in history in
    (ids_handed_out happened ≡ ids) × AllByRecursion (λ j. IsUndisturbed j happened → ⊥) (jobs_put happened)
