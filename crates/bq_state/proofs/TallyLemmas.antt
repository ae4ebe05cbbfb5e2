-- Counts of jobs after a change of the jobs.
use Rattle.std.proofs.Common.{Bool, List, Some, [], arith, count_by, filter, length, refl, ℕ, ◌&&◌, ◌∷◌, ◌≡◌, ◌≤◌}
use Rattle.std.{proofs.lemmas.{Grind.common_steps, List.Sums.count_by-le-length}, specs.Prelude.if◌then◌else◌}
use Rattle.bq_job.specs.{beside.AreIdsWithin, declared.job.Job.Job, machine.{greatest, is_buried, is_delayed, is_ready, is_reserved}}
use Rattle.bq_job.specs.machine.{is_urgent, job_with}
use Rattle.bq_jobs.{proofs.Changes.{count_added, count_without as count_taken}, specs.JobsSeen.{with_added, without}}
use Rattle.bq_state.specs.{Tallies.{count_with, count_without, tally_of}, declared.known.tally.Tally.Tally}

-- the count of the jobs that pass after a job is added,
pub one_added : (j : Job) (jobs : List Job) → length (with_added j jobs) ≤ greatest
    → (p : Job → Bool) → count_with (p j) (count_by p jobs) ≡ count_by p (with_added j jobs)
one_added j jobs fits p = grind (arith, common_steps, count_added, count_by-le-length p (with_added j jobs))

-- or removed
pub one_taken : (low next id : ℕ) (j : Job) (jobs : List Job) → AreIdsWithin low jobs next → job_with id jobs ≡ Some j
    → (p : Job → Bool) → count_without (p j) (count_by p jobs) ≡ count_by p (without id jobs)
one_taken low next id j jobs ids found p = grind (arith, count_taken p low next id j jobs ids found)

-- the counts of jobs after a change by `step` of the count of the jobs that pass
abbrev pub tally_stepped : ((Job → Bool) → ℕ → ℕ) → Tally → Tally
tally_stepped step t = record {
  urgent = step is_urgent t.urgent;
  ready = step is_ready t.ready;
  reserved = step (λ j. is_reserved j.state) t.reserved;
  delayed = step (λ j. is_delayed j.state) t.delayed;
  buried = step (λ j. is_buried j.state) t.buried;
}

pub tally_is : (b : Bool) (step : (Job → Bool) → ℕ → ℕ) (old new : List Job)
    → ((p : Job → Bool) → (if b then step p (count_by p old) else count_by p old) ≡ count_by p new)
    → (if b then tally_stepped step (tally_of old) else tally_of old) ≡ tally_of new
tally_is b step old new counts = grind arith

-- how many of the chosen jobs pass
pub both_count : (chosen passes : Job → Bool) (jobs : List Job)
    → count_by passes (filter chosen jobs) ≡ count_by (λ k. chosen k && passes k) jobs
both_count chosen passes [] = refl
both_count chosen passes (j ∷ jobs) = grind (arith, common_steps, both_count chosen passes jobs)
