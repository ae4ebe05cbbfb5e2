-- The jobs by their ids.
use Rattle.std.proofs.lemmas.Grind.{common_steps}
use Rattle.std.proofs.Common.{◌≡◌, ℕ, suc, cond, List, [], ◌∷◌, Some, None, map, arith, refl, ap, inl, inr}
use Rattle.std.specs.Prelude.{◌==◌}
use Rattle.std.specs.Ordering.{is_eq, nat_cmp}
use Rattle.std.specs.Map.{lookup, remove_entry, set_value}
use Rattle.std.specs.BTreeMap.{is_at, insert_entry}
use Rattle.std.proofs.lemmas.Bool.{cases_Bool}
use Rattle.std.proofs.lemmas.Bool.Decides.{nat_tests}
use Rattle.bq_job.specs.declared.job.Job.{Job}
use Rattle.bq_job.specs.machine.Changes.{job_with}
use Rattle.bq_job.specs.beside.Lawful.{AreIdsWithin}
use Rattle.bq_jobs.specs.Changed.{with_changed}
use Rattle.bq_jobs.specs.Inside.{jobs_of, with_id}
use Rattle.bq_jobs.specs.JobsSeen.{with_added, without}
use Rattle.bq_jobs.proofs.Changes.{none_changed, all_kept, others_above}

-- numbers compare equal exactly if they are the same
pub is_eq_nat : (a b : ℕ) → is_eq (nat_cmp a b) ≡ (b == a)
is_eq_nat a b = grind arith

pub same_jobs : (jobs : List Job) → jobs_of (map with_id jobs) ≡ jobs
same_jobs [] = refl
same_jobs (j ∷ jobs) = ap (λ ks. j ∷ ks) (same_jobs jobs)

pub lookup_by_id : (id : ℕ) (jobs : List Job) → lookup (is_at (nat_cmp id)) (map with_id jobs) ≡ job_with id jobs
lookup_by_id id [] = refl
lookup_by_id id (j ∷ jobs) = rw (is_eq_nat id j.id) (ap (λ o. cond (j.id == id) (Some j) o) (lookup_by_id id jobs))

pub insert_by_id : (j : Job) (jobs : List Job) → job_with j.id jobs ≡ None
    → insert_entry nat_cmp (map with_id jobs) j.id j ≡ map with_id (with_added j jobs)
insert_by_id j [] free = refl
insert_by_id j (k ∷ jobs) free = grind (arith, nat_tests, insert_by_id j jobs)

pub remove_by_id : (low next id : ℕ) (jobs : List Job) → AreIdsWithin low jobs next
    → remove_entry (is_at (nat_cmp id)) (map with_id jobs) ≡ map with_id (without id jobs)
remove_by_id low next id [] h = refl
remove_by_id low next id (k ∷ jobs) h =
    elim (cases_Bool (k.id == id)) [
      | inl out ↦ grind (arith, all_kept, others_above)
      | inr kept ↦ rw (is_eq_nat id k.id, kept) (ap (λ es. with_id k ∷ es) (remove_by_id (suc k.id) next id jobs h.1))
    ]

-- the changed job is filed under its id
pub set_by_id : (low next id : ℕ) (f : Job → Job) (j : Job) (jobs : List Job) → AreIdsWithin low jobs next
    → job_with id jobs ≡ Some j → (f j).id ≡ id
    → set_value (is_at (nat_cmp id)) (map with_id jobs) (f j) ≡ map with_id (with_changed id f jobs)
set_by_id low next id f j [] h found same = refl
set_by_id low next id f j (k ∷ jobs) h found same =
    grind (arith, common_steps, is_eq_nat, none_changed, others_above, set_by_id (suc k.id) next id f j jobs h.1)
