-- Additions to and removals from lists of jobs in the order of their ids.
use Rattle.std.proofs.lemmas.Grind.{common_steps}
use Rattle.std.proofs.Common.{◌≡◌, ℕ, suc, ◌+◌, ◌<◌, ◌≤◌, Bool, true, false, cond, List, [], ◌∷◌}
use Rattle.std.proofs.Common.{◌++◌, Some, None, map, length, arith, refl, ap, ◌∙◌}
use Rattle.std.specs.Prelude.{◌==◌, nat_lt, count_by, if◌then◌else◌, not}
use Rattle.std.specs.List.{AllByRecursion as All, Contains}
use Rattle.std.proofs.lemmas.Bool.{cases_Bool}
use Rattle.std.proofs.lemmas.Bool.Decides.{nat_tests}
use Rattle.bq_job.specs.declared.job.Job.{Job}
use Rattle.bq_job.specs.machine.Changes.{job_with}
use Rattle.bq_job.specs.beside.Lawful.{AreIdsWithin}
use Rattle.bq_job.proofs.ChoiceLemmas.{first_of_contains}
use Rattle.bq_job.proofs.KeptLemmas.{ids_of_filter}
use Rattle.bq_job.proofs.ListLemmas.{all_from_members, all_weaker, count_cons}
use Rattle.bq_job.proofs.LookupLemmas.{found_job, job_found, job_in_rest}
use Rattle.bq_jobs.specs.Changed.{IgnoresTube, KeepsTube}
use Rattle.bq_jobs.specs.JobsSeen.{with_added, without}
use Rattle.bq_jobs.specs.Laws.{AddsAtTheEnd, ChosenHasItsId, NextIsFree}

-- the lowest id is below the next one
pub low_below : (low next : ℕ) (jobs : List Job) → AreIdsWithin low jobs next → low ≤ next
low_below low next [] h = h
low_below low next (j ∷ jobs) h = let i = low_below (suc j.id) next jobs h.1 in omega (arith, i, h.0)

-- all ids are at least the lowest, and below the next one
pub all_from_low : (low next : ℕ) (jobs : List Job) → AreIdsWithin low jobs next → All (λ j. low ≤ j.id) jobs
all_from_low low next [] h = tt
all_from_low low next (j ∷ jobs) h = grind (arith, all_weaker, all_from_low (suc j.id) next jobs h.1)

pub all_below_next : (low next : ℕ) (jobs : List Job) → AreIdsWithin low jobs next → All (λ j. j.id < next) jobs
all_below_next low next jobs h = all_from_members (λ j. j.id < next) jobs (λ j i. (job_found low next jobs j h i).1)

-- an id that no job has finds no job
pub not_found : (id : ℕ) (jobs : List Job) → All (λ j. (j.id == id) ≡ false) jobs → job_with id jobs ≡ None
not_found id [] h = refl
not_found id (j ∷ jobs) h = rw h.0 (not_found id jobs h.1)

pub all_kept : (id : ℕ) (jobs : List Job) → All (λ j. (j.id == id) ≡ false) jobs → without id jobs ≡ jobs
all_kept id [] h = refl
all_kept id (j ∷ jobs) h = rw h.0 (ap (λ ks. j ∷ ks) (all_kept id jobs h.1))

pub none_changed : (id : ℕ) (f : Job → Job) (jobs : List Job) → All (λ j. (j.id == id) ≡ false) jobs
    → map (λ k. if k.id == id then f k else k) jobs ≡ jobs
none_changed id f [] h = refl
none_changed id f (j ∷ jobs) h = rw h.0 (ap (λ ks. j ∷ ks) (none_changed id f jobs h.1))

pub others_above : (id low next : ℕ) (jobs : List Job) → id < low → AreIdsWithin low jobs next → All (λ j. (j.id == id) ≡ false) jobs
others_above id low next jobs l h = grind (arith, all_weaker, all_from_low)

pub next_is_free : NextIsFree
next_is_free low next jobs h = grind (arith, not_found, all_weaker, all_below_next)

-- a job that an id finds has this id
pub found_id : (id : ℕ) (jobs : List Job) (j : Job) → job_with id jobs ≡ Some j → j.id ≡ id
found_id id jobs j h = (found_job id jobs j h).0

-- a job's id finds this job
pub found_by_id : (low next : ℕ) (jobs : List Job) (j : Job) → AreIdsWithin low jobs next → Contains jobs j → job_with j.id jobs ≡ Some j
found_by_id low next jobs j h i = (job_found low next jobs j h i).0

pub all_found : (low next : ℕ) (jobs : List Job) → AreIdsWithin low jobs next → All (λ j. job_with j.id jobs ≡ Some j) jobs
all_found low next jobs h = all_from_members (λ j. job_with j.id jobs ≡ Some j) jobs (λ j i. found_by_id low next jobs j h i)

-- a change that ignores the tube does not change it
pub stays_in : (f : Job → Job) → IgnoresTube f → KeepsTube f
stays_in f ignores j = ap (λ (i : Job). i.tube) (ignores j j.tube)

pub chosen_has_its_id : ChosenHasItsId
chosen_has_its_id low next jobs passes before j h chosen = found_by_id low next jobs j h (first_of_contains passes before jobs j chosen)

-- additions
added_at_end : (jobs : List Job) (j : Job) → All (λ k. k.id < j.id) jobs → with_added j jobs ≡ jobs ++ j ∷ []
added_at_end [] j h = refl
added_at_end (k ∷ jobs) j h = grind (arith, added_at_end jobs j h.1)

pub adds_at_the_end : AddsAtTheEnd
adds_at_the_end low jobs j h = added_at_end jobs j (all_below_next low j.id jobs h)

added_first : (j : Job) (low next : ℕ) (jobs : List Job) → j.id < low → AreIdsWithin low jobs next → with_added j jobs ≡ j ∷ jobs
added_first j low next [] l h = refl
added_first j low next (k ∷ jobs) l h = let after : nat_lt k.id j.id ≡ false = (let m = h.0 in grind (arith, nat_tests)) in rw after refl

pub found_among_added : (q : ℕ) (j : Job) (jobs : List Job) → job_with q (with_added j jobs) ≡ cond (j.id == q) (Some j) (job_with q jobs)
found_among_added q j [] = refl
found_among_added q j (k ∷ jobs) = grind (arith, found_among_added q j jobs)

pub added_within : (low next : ℕ) (j : Job) (jobs : List Job) → low ≤ j.id → j.id < next → job_with j.id jobs ≡ None
    → AreIdsWithin low jobs next → AreIdsWithin low (with_added j jobs) next
added_within low next j [] l u free h = (l, u)
added_within low next j (k ∷ jobs) l u free h = grind (arith, common_steps, cases_Bool, nat_tests, added_within (suc k.id) next j jobs)

pub count_added : (p : Job → Bool) (j : Job) (jobs : List Job) → count_by p (with_added j jobs) ≡ cond (p j) 1 0 + count_by p jobs
count_added p j [] = count_cons p j []
count_added p j (k ∷ jobs) = grind (arith, common_steps, count_added p j jobs)

-- all jobs are counted by a test that all pass
count_all : (jobs : List Job) → count_by (λ k. true) jobs ≡ length jobs
count_all [] = refl
count_all (j ∷ jobs) = omega (arith, count_cons (λ k. true) j jobs, count_all jobs)

pub length_added : (j : Job) (jobs : List Job) → length (with_added j jobs) ≡ suc (length jobs)
length_added j jobs = grind (arith, count_added, count_all)

-- removals
pub found_without : (q id : ℕ) (jobs : List Job) → job_with q (without id jobs) ≡ cond (id == q) None (job_with q jobs)
found_without q id jobs = grind (arith, job_in_rest)

pub without_within : (low next id : ℕ) (jobs : List Job) → AreIdsWithin low jobs next → AreIdsWithin low (without id jobs) next
without_within low next id jobs h = ids_of_filter (λ k. not (k.id == id)) low next jobs h

pub count_without : (p : Job → Bool) (low next id : ℕ) (j : Job) (jobs : List Job) → AreIdsWithin low jobs next → job_with id jobs ≡ Some j
    → cond (p j) 1 0 + count_by p (without id jobs) ≡ count_by p jobs
count_without p low next id j [] h found = absurd cc
count_without p low next id j (k ∷ jobs) h found =
    grind (arith, cases_Bool, all_kept, others_above, count_cons p k, count_without p (suc k.id) next id j jobs h.1)

pub length_without : (low next id : ℕ) (j : Job) (jobs : List Job) → AreIdsWithin low jobs next → job_with id jobs ≡ Some j
    → suc (length (without id jobs)) ≡ length jobs
length_without low next id j jobs h found = grind (arith, count_without (λ k. true) low next id j jobs h found, count_all)

-- an id that finds no job is that of none
pub none_has : (id : ℕ) (jobs : List Job) → job_with id jobs ≡ None → All (λ j. (j.id == id) ≡ false) jobs
none_has id [] h = tt
none_has id (k ∷ jobs) h = grind (arith, none_has id jobs)

pub without_none : (id : ℕ) (jobs : List Job) → job_with id jobs ≡ None → without id jobs ≡ jobs
without_none id jobs h = all_kept id jobs (none_has id jobs h)

-- a removal, and an addition of the changed job
pub changed : (low next id : ℕ) (f : Job → Job) (j : Job) (jobs : List Job) → AreIdsWithin low jobs next → job_with id jobs ≡ Some j
    → (f j).id ≡ id → with_added (f j) (without id jobs) ≡ map (λ k. if k.id == id then f k else k) jobs
changed low next id f j [] h found same = absurd cc
changed low next id f j (k ∷ jobs) h found same =
    grind (arith, all_kept, added_first, none_changed, others_above, nat_tests, changed (suc k.id) next id f j jobs h.1)

-- after its removal, an id finds no job
pub not_there : (id : ℕ) (jobs : List Job) → job_with id (without id jobs) ≡ None
not_there id jobs = let same : (id == id) ≡ true = grind (arith, nat_tests) in found_without id id jobs ∙ rw same refl
