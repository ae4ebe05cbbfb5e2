-- The registered tubes and their numbers.
use Rattle.std.specs.Prelude.{◌≡◌, ◌<◌, ◌≤◌, ◌^◌, ◌∷◌, [], ℕ, zero, suc, true, List, Option, Some, None}
use Rattle.std.specs.Prelude.{get_or, is_some, length, unwrap_or, map}
use Rattle.std.specs.BTreeMap.{is_at, insert_entry}
use Rattle.std.specs.Cmp.Lexicographic.{slice_cmp}
use Rattle.std.specs.List.{AllByRecursion}
use Rattle.std.specs.Map.{lookup, remove_entry}
use Rattle.std.specs.Ordering.{nat_cmp}
use Rattle.bq_index.specs.Order.{InOrder}
use Rattle.bq_job.specs.declared.job.Job.{Job}
use Rattle.bq_jobs.specs.JobsSeen.{JobsSeen}
use Rattle.bq_jobs.specs.Names.{number_in}

-- the number of each tube by its name, and the name of each number, if it has one
pub record Numbering : Type 0 where
  pub numbers : List (List ℕ × ℕ)
  pub names : List (Option (List ℕ))

abbrev pub number_of : List ℕ → Numbering → Option ℕ
number_of name k = lookup (is_at (slice_cmp nat_cmp name)) k.numbers

abbrev pub name_of : ℕ → Numbering → Option (List ℕ)
name_of n k = get_or k.names n None

-- Names and numbers correspond one to one, and numbers stay small.
pub record IsPaired (k : Numbering) : Type 0 where
  pub by_name : InOrder (slice_cmp nat_cmp) k.numbers
  pub there : (name : List ℕ) (n : ℕ) → number_of name k ≡ Some n → name_of n k ≡ Some name
  pub back : (n : ℕ) (name : List ℕ) → name_of n k ≡ Some name → number_of name k ≡ Some n
  pub few : length k.names ≤ 2 ^ 30

-- the names with x at number n, and with none at the numbers up to there that were not used yet
abbrev pub put_at : List (Option (List ℕ)) → ℕ → Option (List ℕ) → List (Option (List ℕ))
put_at [] zero x = x ∷ []
put_at [] (suc n) x = None ∷ put_at [] n x
put_at (y ∷ names) zero x = x ∷ names
put_at (y ∷ names) (suc n) x = y ∷ put_at names n x

-- the numbering with one more tube, which gets the number n
abbrev pub paired_with : ℕ → List ℕ → Numbering → Numbering
paired_with n name k = record {
  numbers = insert_entry (slice_cmp nat_cmp) k.numbers name n;
  names = put_at k.names n (Some name);
}

-- the number n was free and has this name now
abbrev pub IsGiven : ℕ → List ℕ → List (Option (List ℕ)) → List (Option (List ℕ)) → Type 0
IsGiven n name old new =
    (n < 2 ^ 30) × (get_or old n None ≡ None) × (new ≡ put_at old n (Some name)) × (length new ≤ 2 ^ 30)

abbrev pub names_without : Option ℕ → List (Option (List ℕ)) → List (Option (List ℕ))
names_without None names = names
names_without (Some n) names = put_at names n None

-- the numbering without the tube of this name, if it is registered
abbrev pub without_known : List ℕ → Numbering → Numbering
without_known name k = record k {
  numbers = remove_entry (is_at (slice_cmp nat_cmp name)) k.numbers;
  names = names_without (number_of name k) k.names;
}

-- the job with the name of its tube in place of the number
abbrev pub named : Numbering → Job → Job
named k j = record j { tube = unwrap_or (name_of (number_in j.tube) k) [] }

-- The tube of the job is a number that has a name.
abbrev pub IsNumbered : Numbering → Job → Type 0
IsNumbered k j = (j.tube ≡ number_in j.tube ∷ []) × (is_some (name_of (number_in j.tube) k) ≡ true)

abbrev pub AreNumbered : Numbering → List Job → Type 0
AreNumbered k rows = AllByRecursion (IsNumbered k) rows

-- the same in a numbering that is one to one
pub record AreRegistered (k : Numbering) (rows : List Job) : Type 0 where
  pub paired : IsPaired k
  pub numbered : AreNumbered k rows

-- what is kept, as a contract sees it with the names of the tubes
abbrev pub seen_named : JobsSeen → Numbering → JobsSeen
seen_named rows k = record { jobs = map (named k) rows.jobs; room = rows.room; comparisons = rows.comparisons; tubes = k.numbers }

-- the tube of this name is registered under this number
abbrev pub HasNumber : List ℕ → List ℕ → List (List ℕ × ℕ) → Type 0
HasNumber name number numbers = lookup (is_at (slice_cmp nat_cmp name)) numbers ≡ Some (number_in number)

-- each tube keeps the number that it had
abbrev pub Extends : List (List ℕ × ℕ) → List (List ℕ × ℕ) → Type 0
Extends old new =
    (name : List ℕ) (n : ℕ) → lookup (is_at (slice_cmp nat_cmp name)) old ≡ Some n → lookup (is_at (slice_cmp nat_cmp name)) new ≡ Some n
