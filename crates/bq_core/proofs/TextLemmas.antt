-- Texts that are made.
use Rattle.std.proofs.Common.{Bor, Err, IfOk, List, Ok, Result, Some, [], ap, arith, codes, flat_map, option_map, refl, true, ℕ, ◌++◌, ◌∷◌}
use Rattle.std.proofs.{Common.◌≡◌, lemmas.Grind.common_steps}
use Rattle.bq_job.{proofs.NameOrderLemmas.stays_fold, specs.{beside.is_in_order, declared.{fault.NoMemory.NoMemory, job.Job.Job}}}
use Rattle.bq_job.specs.{machine.{job_with, name_list}, texts.Yaml.name_line}
use Rattle.bq_jobs.{proofs.Changes.found_id, specs.Seen.but_for_tube}
use Rattle.bq_state.specs.Names.{names_of}

-- The record found by an id belongs to the job with that id.
pub id_of_packed : (id : ℕ) (row : Job) (jobs : List Job) → Some (but_for_tube row) ≡ option_map but_for_tube (job_with id jobs)
    → id ≡ row.id
id_of_packed id row jobs same = grind (arith, common_steps, found_id)

lines_of : (names : List (Bor (List ℕ)))
    → flat_map (λ (name : Bor (List ℕ)). name_line name.now) names ≡ flat_map name_line (names_of names)
lines_of [] = refl
lines_of (name ∷ names) = ap (λ more. name_line name.now ++ more) (lines_of names)

-- Names in order are listed unchanged.
pub names_told : (names : List (Bor (List ℕ))) (r : Result (List ℕ) NoMemory) → is_in_order (names_of names) ≡ true
    → IfOk r (λ text. text ≡ codes "---\n" ++ flat_map (λ (name : Bor (List ℕ)). name_line name.now) names)
    → IfOk r (λ text. text ≡ name_list (names_of names))
names_told names (Ok text) order is = grind (arith, common_steps, lines_of, stays_fold)
names_told names (Err e) order is = tt
