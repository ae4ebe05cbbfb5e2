-- Looking up jobs by id in a list of increasing ids: after a change of each job, a removal and an
-- addition.
use Rattle.std.proofs.Common.{ℕ, zero, suc, ◌≡◌, ◌≤◌, ◌<◌, false, not, cond, List, [], ◌∷◌, ◌++◌, map, arith, refl, Some, None}
use Rattle.std.proofs.lemmas.{Bool.{both_ways, cases_Bool, eq-eqb, eqb-true}, Grind.common_steps}
use Rattle.std.specs.{List.Contains, Prelude.{◌==◌, filter, option_map}}
use Rattle.bq_job.specs.{beside.AreIdsWithin, declared.job.Job.Job, machine.job_with}
use Rattle.bq_job.proofs.ListLemmas.{found_passes, contains_head}

-- the job that is found is in the list and has the id
pub found_job : (id : ℕ) (jobs : List Job) (j : Job) → job_with id jobs ≡ Some j → (j.id ≡ id) × Contains jobs j
found_job id jobs j e = let f = found_passes (λ k. k.id == id) jobs j e in (eqb-true j.id id f.0, f.1)

pub job_in_map : (f : Job → Job) (id : ℕ) (jobs : List Job) → ((j : Job) → (f j).id ≡ j.id)
    → job_with id (map f jobs) ≡ option_map f (job_with id jobs)
job_in_map f id [] same = refl
job_in_map f id (j ∷ jobs) same = grind (arith, common_steps, cases_Bool, job_in_map f id jobs same)

ids_up : (low next : ℕ) (jobs : List Job) → AreIdsWithin low jobs next → low ≤ next
ids_up low next [] h = h
ids_up low next (j ∷ jobs) h = let a = h.0 in let b = ids_up (suc j.id) next jobs h.1 in omega arith

job_found_above : (low next : ℕ) (jobs : List Job) (j : Job) → AreIdsWithin low jobs next → Contains jobs j
    → (low ≤ j.id) × (job_with j.id jobs ≡ Some j) × (j.id < next)
job_found_above low next [] j h (n, less, is) = absurd (omega arith)
job_found_above low next (k ∷ jobs) j h (zero, less, is) = grind (arith, ids_up)
job_found_above low next (k ∷ jobs) j h (suc n, less, is) = grind (arith, job_found_above (suc k.id) next jobs j h.1)

-- each job of the list is found by its id
pub job_found : (low next : ℕ) (jobs : List Job) (j : Job) → AreIdsWithin low jobs next → Contains jobs j
    → (job_with j.id jobs ≡ Some j) × (j.id < next)
job_found low next jobs j h i = let f = job_found_above low next jobs j h i in (f.1, f.2)

-- the jobs except those with one id
pub job_in_rest : (removed id : ℕ) (jobs : List Job)
    → job_with id (filter (λ k. not (k.id == removed)) jobs) ≡ cond (id == removed) None (job_with id jobs)
job_in_rest removed id [] = grind (arith, common_steps, cases_Bool)
job_in_rest removed id (j ∷ jobs) = grind (arith, cases_Bool, eqb-true, both_ways, eq-eqb, job_in_rest removed id jobs)

-- one more job at the end
pub job_in_more : (id : ℕ) (jobs : List Job) (j : Job) → (j.id == id) ≡ false → job_with id (jobs ++ j ∷ []) ≡ job_with id jobs
job_in_more id [] j e = rw e refl
job_in_more id (k ∷ jobs) j e = grind (arith, common_steps, cases_Bool, job_in_more id jobs j e)

pub job_at_end : (low : ℕ) (jobs : List Job) (j : Job) → AreIdsWithin low jobs j.id → job_with j.id (jobs ++ j ∷ []) ≡ Some j
job_at_end low [] j h = rw (eq-eqb j.id j.id refl) refl
job_at_end low (k ∷ jobs) j h =
    let found = job_found low j.id (k ∷ jobs) k h (contains_head k jobs) in
    grind (arith, job_at_end (suc k.id) jobs j h.1)
