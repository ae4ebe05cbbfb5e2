-- A removal that asks a test first, of the records and of their jobs with the names of their tubes.
use Rattle.std.proofs.lemmas.Grind.{common_steps}
use Rattle.std.proofs.Common.{◌≡◌, ℕ, Bool, true, List, Option, Some, is_some, map, sym, ap, ◌∙◌, arith}
use Rattle.std.specs.Prelude.{if◌then◌else◌}
use Rattle.std.specs.Option.{IfSome, option_map}
use Rattle.bq_index.proofs.Removed.{value_there}
use Rattle.bq_index.specs.Removed.{passing}
use Rattle.bq_job.specs.declared.job.Job.{Job}
use Rattle.bq_job.specs.machine.Changes.{job_with}
use Rattle.bq_jobs.specs.Changed.{AsksNoTube, entry_at, removed_from, numbered_removal}
use Rattle.bq_jobs.specs.JobsSeen.{JobsSeen, without}
use Rattle.bq_jobs.specs.Numbering.{AreRegistered, HasNumber, IsNumbered, Numbering, name_of, named, seen_named}
use Rattle.bq_jobs.specs.Names.{number_in}
use Rattle.bq_jobs.specs.Room.{RemovesIf}
use Rattle.bq_jobs.specs.Told.{removed_told}
use Rattle.bq_jobs.specs.declared.places.Holder.{Holder}
use Rattle.bq_jobs.specs.declared.places.Timer.{Timer}
use Rattle.bq_jobs.specs.Inside.{ById, IsShelved, Order, jobs_of}
use Rattle.bq_jobs.proofs.NamedJobs.{counted_as, job_named, number_removed, numbered_found, numbered_without, without_named}
use Rattle.bq_jobs.proofs.Firsts.{group_cmp, timer_cmp}
use Rattle.bq_jobs.proofs.Shelved.{found_in, found_own}

-- the job that an id finds, if it passes
module _ (p : Job → Bool) (id : ℕ) (by_id : ById) (groups : Order Holder) (timers : Order Timer)
    (h : IsShelved group_cmp timer_cmp by_id groups timers) where
  pub passing_in : passing p (entry_at id by_id.entries) ≡ passing p (job_with id (jobs_of by_id.entries))
  passing_in = ap (passing p) (found_in by_id groups timers h id)

  -- it is there,
  pub passing_there : (j : Job) → passing p (entry_at id by_id.entries) ≡ Some j → job_with id (jobs_of by_id.entries) ≡ Some j
  passing_there j e = sym (found_in by_id groups timers h id) ∙ sym (value_there p (entry_at id by_id.entries) j (sym e))

  -- and has this id
  pub passing_own : (j : Job) → passing p (entry_at id by_id.entries) ≡ Some j → j.id ≡ id
  passing_own j e = found_own by_id groups timers h id j (sym (value_there p (entry_at id by_id.entries) j (sym e)))

passing_numbered : (k : Numbering) (p : Job → Bool) (o : Option Job) → IfSome o (IsNumbered k) → IfSome (passing p o) (IsNumbered k)
passing_numbered k p o is = grind arith

module _ (k : Numbering) (id : ℕ) (rows : List Job) (p : Job → Bool) where
  pub told_removed_if : AsksNoTube p
      → option_map (λ r. r.1) (option_map (removed_told k) (option_map numbered_removal (passing p (job_with id rows))))
      ≡ option_map removed_from (passing p (job_with id (map (named k) rows)))
  told_removed_if no_tube = grind (arith, job_named)

  pub number_removed_if : AreRegistered k rows
      → IfSome (option_map (removed_told k) (option_map numbered_removal (passing p (job_with id rows))))
      (λ r. HasNumber r.1.tube r.0 k.numbers)
  number_removed_if h = search (number_removed, passing_numbered, numbered_found)

-- the number in a report has a name
pub removed_has_name : (k : Numbering) (p : Job → Bool) (id : ℕ) (rows : List Job) → AreRegistered k rows
    → IfSome (option_map numbered_removal (passing p (job_with id rows))) (λ r. is_some (name_of (number_in r.0) k) ≡ true)
removed_has_name k p id rows h = grind (arith, passing_numbered k p (job_with id rows) (numbered_found k id rows h.numbered))

pub registered_if : (k : Numbering) (id : ℕ) (rows : List Job) (b : Bool) → AreRegistered k rows
    → AreRegistered k (if b then without id rows else rows)
registered_if k id rows b h = grind (arith, numbered_without)

module _ {A B : Type 0} (k : Numbering) (id : ℕ) (rows new old : JobsSeen) (row : Option A) (told : Option B) (is : seen_named rows k ≡ old)
    (same : is_some told ≡ is_some row) where
  pub removes_named_if : RemovesIf id row rows new → RemovesIf id told old (seen_named new k)
  removes_named_if r = grind (arith, common_steps, counted_as, without_named)

-- what the search takes for a removal that asks a test
pub ruleset discards_if = (registered_if, told_removed_if)
