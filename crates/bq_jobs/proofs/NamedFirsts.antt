-- The first job by names of tubes is the first record by numbers.
use Rattle.std.proofs.Common.{◌≡◌, ℕ, Bool, false, List, [], ◌∷◌, Option, Some, None, map, refl, ap, arith}
use Rattle.std.specs.Prelude.{fold}
use Rattle.std.specs.List.{AllByRecursion as All}
use Rattle.std.specs.Option.{option_map}
use Rattle.bq_job.specs.declared.job.Job.{Job}
use Rattle.bq_job.specs.machine.Changes.{better_of, first_of, is_held_by, is_pair_before}
use Rattle.bq_jobs.specs.declared.places.JobList.{JobList}
use Rattle.bq_jobs.specs.declared.places.Timer.{Timer}
use Rattle.bq_jobs.specs.declared.places.Timer.TheVariants as timers
use Rattle.bq_jobs.specs.JobsSeen.{ranked}
use Rattle.bq_jobs.specs.Leases.{deadline_of, is_lease_before}
use Rattle.bq_jobs.specs.Names.{number_in}
use Rattle.bq_jobs.specs.Numbering.{AreNumbered, AreRegistered, IsPaired, Numbering, named, number_of}
use Rattle.bq_jobs.specs.Places.{held_by, list_of}
use Rattle.bq_jobs.specs.Ranks.{first_by, first_held, first_in, first_timed, is_before_by, is_in_list, is_listed, is_timed, list_rank}
use Rattle.bq_jobs.specs.Ranks.{moment_of}
use Rattle.bq_jobs.proofs.NamedJobs.{all_told, none_told}

module _ (f : Job → Job) (passes test : Job → Bool) (before : Job → Job → Bool)
    (alike : (a b : Job) → before (f a) (f b) ≡ before a b) where
  fold_named : (rows : List Job) → All (λ j. passes (f j) ≡ test j) rows → (o : Option Job)
      → fold (better_of passes before) (option_map f o) (map f rows) ≡ option_map f (fold (better_of test before) o rows)
  fold_named [] all o = refl
  fold_named (j ∷ rows) all o = grind (arith, fold_named rows all.1 (better_of test before o j))

  first_named : (rows : List Job) → All (λ j. passes (f j) ≡ test j) rows
      → first_of passes before (map f rows) ≡ option_map f (first_of test before rows)
  first_named rows all = fold_named rows all None

-- Its number and its id are the same, if they do not depend on the name,
module _ (k : Numbering) (passes test : Job → Bool) (number : Job → ℕ) (same : (j : Job) → number (named k j) ≡ number j) where
  alike : (a b : Job) → is_pair_before (number (named k a)) a.id (number (named k b)) b.id ≡ is_pair_before (number a) a.id (number b) b.id
  alike a b = grind (arith, same)

  first_told : (rows : List Job) → All (λ j. passes (named k j) ≡ test j) rows
      → option_map (ranked number) (first_by passes number (map (named k) rows)) ≡ option_map (ranked number) (first_by test number rows)
  first_told rows all =
      grind (arith, first_named (named k) passes test (λ a b. is_pair_before (number a) a.id (number b) b.id) alike rows all, same)

-- as in a list of a registered tube,
listed_by : (k : Numbering) (h : IsPaired k) (name : List ℕ) (n : ℕ) → number_of name k ≡ Some n → (list : JobList) (rows : List Job)
    → AreNumbered k rows
    → option_map (ranked (list_rank list)) (first_in list name (map (named k) rows)) ≡ first_held (list_of (n ∷ []) list) rows
unfolding first_held
listed_by k h name n own list rows all =
    first_told k (is_listed list name) (is_listed list (n ∷ [])) (list_rank list) (λ j. refl) rows
    (all_told k h name n own (λ j. is_in_list list j.state) rows all)

pub listed_told : (k : Numbering) (rows : List Job) → AreRegistered k rows → (name n : List ℕ) → number_of name k ≡ Some (number_in n)
    → n ≡ number_in n ∷ [] → (list : JobList)
    → option_map (ranked (list_rank list)) (first_in list name (map (named k) rows)) ≡ first_held (list_of n list) rows
listed_told k rows h name n own alone list = grind (arith, listed_by)

-- among those of a client, and among delays and leases.
all_alike : (test : Job → Bool) (rows : List Job) → All (λ j. test j ≡ test j) rows
all_alike test [] = tt
all_alike test (j ∷ rows) = (refl, all_alike test rows)

pub seat_told : (k : Numbering) (seat : ℕ) (rows : List Job)
    → option_map (ranked (λ j. deadline_of j.state)) (first_of (is_held_by seat) is_lease_before (map (named k) rows))
    ≡ first_held (held_by seat) rows
unfolding first_held
seat_told k seat rows = search (first_told, all_alike)

pub timed_told : (k : Numbering) (t : Timer) (rows : List Job)
    → option_map (ranked (moment_of t)) (first_by (is_timed t) (moment_of t) (map (named k) rows)) ≡ first_timed t rows
unfolding first_timed
timed_told k timers.Delay rows = search (first_told, all_alike)
timed_told k timers.Lease rows = search (first_told, all_alike)

-- A tube that is not registered has no first job.
none_first : (f : Job → Job) (passes : Job → Bool) (before : Job → Job → Bool) (rows : List Job) → All (λ j. passes (f j) ≡ false) rows
    → first_of passes before (map f rows) ≡ None
none_first f passes before [] all = refl
none_first f passes before (j ∷ rows) all = grind (arith, none_first f passes before rows all.1)

pub none_listed : (k : Numbering) (rows : List Job) → AreRegistered k rows → (name : List ℕ) → number_of name k ≡ None → (list : JobList)
    → option_map (ranked (list_rank list)) (first_in list name (map (named k) rows)) ≡ None
none_listed k rows h name none list =
    ap (option_map (ranked (list_rank list)))
    (none_first (named k) (is_listed list name) (is_before_by (list_rank list)) rows
    (none_told k h.paired name none (λ j. is_in_list list j.state) rows h.numbered))
