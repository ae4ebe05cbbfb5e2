-- What a command makes of a job: who held it, and which happening is recorded.
use Rattle.std.proofs.Common.{ℕ, ◌≡◌, Bool, true, false, ◌||◌, cond, List, [], ◌∷◌, Some, arith}
use Rattle.std.proofs.lemmas.Bool.{and_parts, or_cases, or_left, or_right, cond_both, eqb-true, cases_Bool}
use Rattle.std.proofs.lemmas.Grind.{common_steps}
use Rattle.std.specs.{List.{AllByRecursion as All, Contains, list_any}, Prelude.{◌==◌, filter, take}}
use Rattle.bq_job.specs.machine.{delayed_by, in_order, is_buried, is_buried_before, is_buried_in, is_delayed}
use Rattle.bq_job.specs.machine.{is_held_by, is_ready, is_reserved, job_with, kickable, kicked_first}
use Rattle.bq_job.specs.{beside.AreIdsWithin}
use Rattle.bq_job.specs.{machine.put_in_order, Types.{Job, JobState, Step}}
use Rattle.bq_job.proofs.{ChangeLemmas.{Becomes, becomes_itself}, ListLemmas.{all_from_members, all_of_filter}}
use Rattle.bq_job.proofs.{ListLemmas.all_weaker, LookupLemmas.job_found}

-- no client holds a job that is ready or delayed
pub free_by_delay : (delay moment : ℕ) → is_reserved (delayed_by delay moment) ≡ false
free_by_delay delay moment = grind (arith, common_steps, cond_both)

pub held_not_ready : (seat : ℕ) (j : Job) → is_held_by seat j ≡ true → is_ready j ≡ true → ⊥
held_not_ready seat j h i = grind (arith, common_steps)

pub put_aside_not_held : (s : JobState) → (is_buried s || is_delayed s) ≡ true → is_reserved s ≡ true → ⊥
put_aside_not_held s h i = grind (arith, common_steps, cases_Bool)

-- what holds of all elements holds of them in order, and of the first of them
all_put_in_order : (P : Job → Type 0) (before : Job → Job → Bool) (j : Job) (jobs : List Job) → P j → All P jobs
    → All P (put_in_order before j jobs)
all_put_in_order P before j [] h i = (h, tt)
all_put_in_order P before j (k ∷ jobs) h i = grind (arith, common_steps, cond_both, all_put_in_order P before j jobs h i.1)

pub all_in_order : (P : Job → Type 0) (before : Job → Job → Bool) (jobs : List Job) → All P jobs → All P (in_order before jobs)
all_in_order P before [] h = tt
all_in_order P before (j ∷ jobs) h = all_put_in_order P before j (in_order before jobs) h.0 (all_in_order P before jobs h.1)

pub all_of_take : (P : Job → Type 0) (n : ℕ) (jobs : List Job) → All P jobs → All P (take n jobs)
all_of_take P n jobs h = grind (arith, common_steps)

-- a job of the list that no client holds
abbrev pub IsAside : List Job → Job → Type 0
IsAside jobs k = (job_with k.id jobs ≡ Some k) × (is_reserved k.state ≡ true → ⊥)

aside_of_filter : (jobs : List Job) (p : Job → Bool) (next : ℕ) → AreIdsWithin 1 jobs next
    → ((j : Job) → p j ≡ true → (is_buried j.state || is_delayed j.state) ≡ true) → All (IsAside jobs) (filter p jobs)
aside_of_filter jobs p next ids only =
    all_weaker _ (IsAside jobs) (filter p jobs) (λ j h. (h.0, put_aside_not_held j.state (only j h.1)))
    (all_of_filter _ p jobs (all_from_members (λ j. job_with j.id jobs ≡ Some j) jobs (λ j i. (job_found 1 next jobs j ids i).0)))

pub kickable_aside : (tube : List ℕ) (jobs : List Job) (next : ℕ) → AreIdsWithin 1 jobs next → All (IsAside jobs) (kickable tube jobs)
kickable_aside tube jobs next ids =
    of_first (filter (is_buried_in tube) jobs) (grind (arith, common_steps, aside_of_filter, or_left, and_parts))
  where
    of_first : (first : List Job) → All (IsAside jobs) first → All (IsAside jobs) (kicked_first tube jobs first)
    of_first [] h = grind (arith, common_steps, all_in_order, aside_of_filter, or_right, and_parts)
    of_first (j ∷ first) h = all_in_order (IsAside jobs) is_buried_before (j ∷ first) h

pub chosen_not_held : (jobs chosen : List Job) (j : Job) → job_with j.id jobs ≡ Some j → All (IsAside jobs) chosen
    → list_any (λ k. k.id == j.id) chosen ≡ true → is_reserved j.state ≡ true → ⊥
chosen_not_held jobs [] j found h any held = absurd cc
chosen_not_held jobs (k ∷ chosen) j found h any held = grind (arith, or_cases, eqb-true, chosen_not_held jobs chosen j)

-- If the job of one id changes, each job of the list becomes what it may.
pub one_becomes : (what : Step) (id : ℕ) (f : Job → Job) (jobs : List Job) (next : ℕ) (j : Job) → AreIdsWithin 1 jobs next
    → job_with id jobs ≡ Some j → Becomes what j (f j) → (k : Job) → Contains jobs k → Becomes what k (cond (k.id == id) (f k) k)
one_becomes what id f jobs next j ids found becomes k i = grind (arith, common_steps, cond_both, eqb-true, job_found, becomes_itself)
