-- Operations on jobs by the names of their tubes agree with those on records by numbers.
use Rattle.std.proofs.Common.{◌≡◌, ℕ, Bor, Bool, true, false, ◌&&◌, List, arith, rules}
use Rattle.std.proofs.lemmas.Grind.{common_steps}
use Rattle.std.proofs.Common.{[], ◌∷◌, Option, Some, None, is_some, map, refl, sym, ap, ◌∙◌}
use Rattle.std.specs.Prelude.{unwrap_or, Result, Ok, Err, IfOk, IfSome}
use Rattle.std.specs.BTreeMap.{is_at}
use Rattle.std.specs.Cmp.Lexicographic.{slice_cmp}
use Rattle.std.specs.List.{AllByRecursion as All, list_any}
use Rattle.std.specs.Map.{remove_entry}
use Rattle.std.specs.Option.{option_map}
use Rattle.std.specs.Ordering.{nat_cmp}
use Rattle.std.proofs.lemmas.Bool.{cases_Bool, eq-eqb, or_parts}
use Rattle.bq_job.specs.declared.job.Job.{Job}
use Rattle.bq_job.specs.machine.Changes.{job_with}
use Rattle.bq_job.specs.reading.TubeName.{is_same_name}
use Rattle.bq_job.specs.beside.Lawful.{AreIdsWithin}
use Rattle.bq_job.proofs.KeptLemmas.{ids_of_map}
use Rattle.bq_job.proofs.LookupLemmas.{job_in_map}
use Rattle.bq_jobs.specs.JobsSeen.{ComparesAtMost, JobsSeen, with_added, without}
use Rattle.bq_jobs.specs.Changed.{IgnoresTube, moved_by, numbered_move, numbered_removal, with_changed}
use Rattle.bq_jobs.specs.Numbering.{AreNumbered, AreRegistered, Extends, HasNumber, IsNumbered, IsPaired, Numbering, seen_named}
use Rattle.bq_jobs.specs.Numbering.{name_of, named, number_of}
use Rattle.bq_jobs.specs.Names.{number_in}
use Rattle.bq_jobs.specs.Searching.{FindsById}
use Rattle.bq_jobs.specs.Told.{IsNamedIf, moved_told, removed_told, shared_told}
use Rattle.bq_jobs.specs.Seen.{IsBodyOf, IsTubeOf, but_for_tube}
use Rattle.bq_jobs.specs.Sharing.{ChangesShared, SharesAndChanges}
use Rattle.bq_jobs.specs.declared.numbered_jobs.JobMove.{JobMove}
use Rattle.bq_jobs.specs.declared.numbered_jobs.NumberedMove.{NumberedMove}
use Rattle.bq_jobs.proofs.Changes.{stays_in}
use Rattle.bq_jobs.proofs.NumberingLemmas.{name_kept, number_left}

module _ (k : Numbering) (h : IsPaired k) (name : List ℕ) where
  tube_told : (n : ℕ) → number_of name k ≡ Some n → (j : Job) → IsNumbered k j
      → is_same_name name (named k j).tube ≡ is_same_name (n ∷ []) j.tube
  tube_told n own j is = search (rules, cases_Bool, eq-eqb)

  tube_not_told : number_of name k ≡ None → (j : Job) → IsNumbered k j → is_same_name name (named k j).tube ≡ false
  tube_not_told none j is = search (rules, cases_Bool)

  -- the jobs that pass a test of their state and are in the tube
  pub all_told : (n : ℕ) → number_of name k ≡ Some n → (test : Job → Bool) (rows : List Job) → AreNumbered k rows
      → All (λ j. (test j && is_same_name name (named k j).tube) ≡ (test j && is_same_name (n ∷ []) j.tube)) rows
  all_told n own test [] all = tt
  all_told n own test (j ∷ rows) all = (ap (λ b. test j && b) (tube_told n own j all.0), all_told n own test rows all.1)

  pub none_told : number_of name k ≡ None → (test : Job → Bool) (rows : List Job) → AreNumbered k rows
      → All (λ j. (test j && is_same_name name (named k j).tube) ≡ false) rows
  none_told none test [] all = tt
  none_told none test (j ∷ rows) all = grind (arith, tube_not_told, none_told none test rows all.1)

-- Additions, removals and changes of jobs are those of their records.
added_named : (k : Numbering) (j : Job) (rows : List Job) → with_added (named k j) (map (named k) rows) ≡ map (named k) (with_added j rows)
added_named k j [] = refl
added_named k j (r ∷ rows) = grind (arith, added_named k j rows)

pub without_named : (k : Numbering) (id : ℕ) (rows : List Job) → without id (map (named k) rows) ≡ map (named k) (without id rows)
without_named k id [] = refl
without_named k id (r ∷ rows) = grind (arith, without_named k id rows)

module _ (k : Numbering) (id : ℕ) (f : Job → Job) (ignores : IgnoresTube f) where
  pub changed_named : (rows : List Job) → with_changed id f (map (named k) rows) ≡ map (named k) (with_changed id f rows)
  changed_named [] = refl
  changed_named (r ∷ rows) = grind (arith, changed_named rows)

-- the job that an id finds is the job of the record that it finds
pub job_named : (k : Numbering) (id : ℕ) (rows : List Job) → job_with id (map (named k) rows) ≡ option_map (named k) (job_with id rows)
job_named k id rows = job_in_map (named k) id rows (λ j. refl)

-- All records stay numbered.
numbered_added : (k : Numbering) (j : Job) (rows : List Job) → IsNumbered k j → AreNumbered k rows → AreNumbered k (with_added j rows)
numbered_added k j [] is all = (is, tt)
numbered_added k j (r ∷ rows) is all = grind (arith, numbered_added k j rows is all.1)

pub numbered_without : (k : Numbering) (id : ℕ) (rows : List Job) → AreNumbered k rows → AreNumbered k (without id rows)
numbered_without k id [] all = tt
numbered_without k id (r ∷ rows) all = grind (arith, numbered_without k id rows all.1)

numbered_changed : (k : Numbering) (id : ℕ) (f : Job → Job) → IgnoresTube f → (rows : List Job) → AreNumbered k rows
    → AreNumbered k (with_changed id f rows)
numbered_changed k id f ignores [] all = tt
numbered_changed k id f ignores (r ∷ rows) all = grind (arith, stays_in f ignores r, numbered_changed k id f ignores rows all.1)

pub registered_changed : (k : Numbering) (id : ℕ) (f : Job → Job) → IgnoresTube f → (rows : List Job) → AreRegistered k rows
    → AreRegistered k (with_changed id f rows)
registered_changed k id f ignores rows h = record { paired = h.paired; numbered = numbered_changed k id f ignores rows h.numbered }

-- the record that an id finds is numbered
numbered_there : (k : Numbering) (id : ℕ) (rows : List Job) (j : Job) → AreNumbered k rows → job_with id rows ≡ Some j → IsNumbered k j
numbered_there k id [] j all e = absurd cc
numbered_there k id (r ∷ rows) j all e = grind (arith, common_steps, cases_Bool, numbered_there k id rows j all.1)

pub numbered_found : (k : Numbering) (id : ℕ) (rows : List Job) → AreNumbered k rows → IfSome (job_with id rows) (IsNumbered k)
numbered_found k id rows all = grind (arith, numbered_there)

-- a numbered record has a name
named_is : (o : Option (List ℕ)) → is_some o ≡ true → o ≡ Some (unwrap_or o [])
named_is o h1 = grind arith

-- their ids are the same
pub ids_named : (k : Numbering) (low next : ℕ) (rows : List Job) → AreIdsWithin low rows next → AreIdsWithin low (map (named k) rows) next
ids_named k low next rows ids = ids_of_map (named k) low next rows (λ j. refl) ids

-- an id without a job has no record
pub none_named : (k : Numbering) (id : ℕ) (rows : List Job) → job_with id (map (named k) rows) ≡ None → job_with id rows ≡ None
none_named k id rows e = grind (arith, job_named)

-- the record of a job, with the number of its tube
pub row_registered : (k : Numbering) (rows : List Job) → AreRegistered k rows → (j : Job) (n : List ℕ)
    → number_of j.tube k ≡ Some (number_in n) → n ≡ number_in n ∷ [] → AreRegistered k (with_added (record j { tube = n }) rows)
row_registered k rows h j n own alone = grind (arith, numbered_added)

row_named : (k : Numbering) (h : IsPaired k) (j : Job) (n : List ℕ) → number_of j.tube k ≡ Some (number_in n)
    → named k (record j { tube = n }) ≡ j
row_named k h j n own = ap (λ o. record j { tube = unwrap_or o [] }) (h.there j.tube (number_in n) own)

pub row_added : (k : Numbering) (rows : List Job) → AreRegistered k rows → (j : Job) (n : List ℕ)
    → number_of j.tube k ≡ Some (number_in n)
    → with_added j (map (named k) rows) ≡ map (named k) (with_added (record j { tube = n }) rows)
row_added k rows h j n own = ap (λ i. with_added i (map (named k) rows)) (sym (row_named k h.paired j n own))
    ∙ added_named k (record j { tube = n }) rows

pub told_moved : (k : Numbering) (id : ℕ) (f : Job → Job) → IgnoresTube f → (rows : List Job)
    → option_map (λ r. r.1) (option_map (moved_told k) (option_map (numbered_move f) (job_with id rows)))
    ≡ option_map (moved_by f) (job_with id (map (named k) rows))
told_moved k id f ignores rows = grind (arith, job_named)

pub number_removed : (k : Numbering) → IsPaired k → (o : Option Job) → IfSome o (IsNumbered k)
    → IfSome (option_map (removed_told k) (option_map numbered_removal o)) (λ r. HasNumber r.1.tube r.0 k.numbers)
number_removed k h1 o h3 = grind arith

pub number_moved : (k : Numbering) (f : Job → Job) (id : ℕ) (rows : List Job) → AreRegistered k rows
    → IfSome (option_map (moved_told k) (option_map (numbered_move f) (job_with id rows))) (λ r. HasNumber r.1.tube r.0 k.numbers)
number_moved k f id rows h = grind (arith, numbered_found k id rows h.numbered)

-- Jobs keep their tubes if the names of these tubes stay.
module _ (k l : Numbering) where
  abbrev HasName : Job → Type 0
  HasName j = name_of (number_in j.tube) l ≡ name_of (number_in j.tube) k

  numbered_stay : (rows : List Job) → All HasName rows → AreNumbered k rows → AreNumbered l rows
  numbered_stay [] names all = tt
  numbered_stay (j ∷ rows) names all = ((all.0.0, ap is_some names.0 ∙ all.0.1), numbered_stay rows names.1 all.1)

  named_stay : (rows : List Job) → All HasName rows → map (named l) rows ≡ map (named k) rows
  named_stay [] names = refl
  named_stay (j ∷ rows) names = grind (arith, named_stay rows names.1)

  module _ (g : IsPaired l) where
    -- Registering a tube does not change the tubes of the jobs.
    names_extend : (h : IsPaired k) → Extends k.numbers l.numbers → (rows : List Job) → AreNumbered k rows → All HasName rows
    names_extend h extends [] all = tt
    names_extend h extends (j ∷ rows) all = grind (arith, common_steps, name_kept, names_extend h extends rows all.1)

    pub registered_more : (rows : List Job) → AreRegistered k rows → Extends k.numbers l.numbers → AreRegistered l rows
    registered_more rows h extends = grind (arith, numbered_stay, names_extend)

    pub named_more : (rows : List Job) → AreRegistered k rows → Extends k.numbers l.numbers → map (named l) rows ≡ map (named k) rows
    named_more rows h extends = named_stay rows (names_extend h.paired extends rows h.numbered)

    -- Neither does removing a tube that has no jobs.
    module _ (gone : List ℕ) (left : l.numbers ≡ remove_entry (is_at (slice_cmp nat_cmp gone)) k.numbers) where
      name_left : (h : IsPaired k) (j : Job) → IsNumbered k j → is_same_name gone (named k j).tube ≡ false → HasName j
      name_left h j is apart = grind (arith, name_kept, number_left)

      names_left : (h : IsPaired k) (rows : List Job) → AreNumbered k rows
          → list_any (λ j. is_same_name gone j.tube) (map (named k) rows) ≡ false → All HasName rows
      names_left h [] all none = tt
      names_left h (j ∷ rows) all none = grind (arith, or_parts, name_left, names_left h rows all.1)

      pub registered_left : (rows : List Job) → AreRegistered k rows
          → list_any (λ j. is_same_name gone j.tube) (map (named k) rows) ≡ false → AreRegistered l rows
      registered_left rows h none = grind (arith, numbered_stay, names_left)

      pub named_left : (rows : List Job) → AreRegistered k rows
          → list_any (λ j. is_same_name gone j.tube) (map (named k) rows) ≡ false → map (named l) rows ≡ map (named k) rows
      named_left rows h none = named_stay rows (names_left h.paired rows h.numbered none)

-- the tube of a job is the name of its number
pub tube_named : (k : Numbering) (id : ℕ) (rows : List Job) → AreRegistered k rows → (n : List ℕ)
    → option_map (λ j. j.tube) (job_with id rows) ≡ Some n
    → name_of (number_in n) k ≡ option_map (λ j. j.tube) (job_with id (map (named k) rows))
tube_named k id rows h n e = grind (arith, job_named, named_is, numbered_there)

pub no_tube_named : (k : Numbering) (id : ℕ) (rows : List Job) → option_map (λ j. j.tube) (job_with id rows) ≡ None
    → None ≡ option_map (λ j. j.tube) (job_with id (map (named k) rows))
no_tube_named k id rows e = grind (arith, job_named)

-- a reference to a record and a reference to its job show the same
pub same_looks : (r : Option (Bor Job)) → option_map (λ row. but_for_tube row.now) r ≡ option_map but_for_tube (option_map (λ j. j.now) r)
same_looks r = grind arith

-- A bound on the comparisons for records is a bound for their jobs.
pub counted_as : (n : ℕ) (k : Numbering) (rows old new : JobsSeen) → seen_named rows k ≡ old → ComparesAtMost n rows new
    → ComparesAtMost n old new
counted_as n k rows old new is few = grind (arith, common_steps)

pub some_named : (k : Numbering) (id : ℕ) (rows : List Job) → is_some (job_with id (map (named k) rows)) ≡ is_some (job_with id rows)
some_named k id rows = grind (arith, job_named)

-- What a search does to records, it does to their jobs.
module _ {A B : Type 0} (k : Numbering) (id : ℕ) (rows new old : JobsSeen) (row : Option A) (told : Option B) (is : seen_named rows k ≡ old)
    (same : is_some told ≡ is_some row) where
  pub finds_named : FindsById id row rows new → FindsById id told old (seen_named new k)
  finds_named f = grind (arith, common_steps, some_named)

pub no_name : (k : Numbering) (id : ℕ) (rows : List Job) → AreRegistered k rows → (n : List ℕ)
    → true ≡ is_some (job_with id rows) → IsTubeOf (job_with id rows) n → name_of (number_in n) k ≡ None → ⊥
no_name k id rows h n some is none = grind (arith, numbered_found k id rows h.numbered)

pub tube_is : (k : Numbering) (id : ℕ) (rows : List Job) (n tube : List ℕ) → IsTubeOf (job_with id rows) n
    → name_of (number_in n) k ≡ Some tube → IsTubeOf (job_with id (map (named k) rows)) tube
tube_is k id rows n tube is its j e = grind (arith, job_named)

pub body_told : {E : Type 0} (k : Numbering) (id : ℕ) (rows : List Job) (r : Result (List ℕ) E) → IfOk r (IsBodyOf (job_with id rows))
    → IfOk r (IsBodyOf (job_with id (map (named k) rows)))
body_told k id rows r is = grind (arith, job_named)

-- A change of a record that also returns its body is the same change of its job.
module _ (k : Numbering) (id : ℕ) (f : Job → Job) (ignores : IgnoresTube f) (rows new old : JobsSeen) (is : seen_named rows k ≡ old)
    (h : AreRegistered k rows.jobs) where
  abbrev IsReported : NumberedMove → Type 0
  IsReported m = Some m ≡ option_map (numbered_move f) (job_with id rows.jobs)

  named_shared : (body : List ℕ) → ChangesShared id f body rows new → ChangesShared id f body old (seen_named new k)
  named_shared body c = grind (arith, common_steps, changed_named, ids_named, counted_as, job_named)

  abbrev IsReportedOf : List ℕ × JobMove → Type 0
  IsReportedOf r = (Some r.1 ≡ option_map (moved_by f) (job_with id old.jobs)) × HasNumber r.1.tube r.0 k.numbers

  named_report : (m : NumberedMove) → IsReported m → IsReportedOf (moved_told k m)
  named_report m told = grind (arith, told_moved k id f ignores rows.jobs, number_moved k f id rows.jobs h)

  pub shares_named : {E : Type 0} (r : Option (Result (NumberedMove × List ℕ) E)) → SharesAndChanges IsReported id f r rows new
      → SharesAndChanges IsReportedOf id f (shared_told k r) old (seen_named new k)
  shares_named None c = let none : Option NumberedMove = None in finds_named k id rows new old none none is refl c
  shares_named (Some (Err e)) c = finds_named k id rows new old (Some e) (Some e) is refl c
  shares_named (Some (Ok s)) c = (named_report s.0 c.0, named_shared s.1 c.1)

-- The number in a report has a name.
pub moved_has_name : (k : Numbering) (f : Job → Job) (id : ℕ) (rows : List Job) → AreRegistered k rows
    → IfSome (option_map (numbered_move f) (job_with id rows)) (λ m. is_some (name_of (number_in m.tube) k) ≡ true)
moved_has_name k f id rows h = grind (arith, numbered_found k id rows h.numbered)

pub shared_has_name : {E : Type 0} (k : Numbering) (f : Job → Job) (id : ℕ) (rows new : JobsSeen) (r : Option (Result (NumberedMove
    × List ℕ) E))
    → AreRegistered k rows.jobs → SharesAndChanges (λ m. Some m ≡ option_map (numbered_move f) (job_with id rows.jobs)) id f r rows new
    → IsNamedIf k r
shared_has_name k f id rows new r h c = grind (arith, moved_has_name k f id rows.jobs h)

-- what the search takes for an addition, a change and another reference to a body
pub ruleset additions = (ids_named, none_named, row_registered, row_added)

pub ruleset changes = (changed_named, ids_named, registered_changed, told_moved)

pub ruleset shares = (no_name, tube_is, body_told, some_named)
