-- The searches of the parts of a step, in terms of the model.
use Rattle.std.proofs.Common.{Bool, List, Some, [], ap, arith, false, if◌then◌else◌, length, map, not, suc, true, ℕ, ◌&&◌, ◌*◌, ◌+◌, ◌-◌}
use Rattle.std.proofs.{Common.{◌<◌, ◌==◌, ◌∙◌, ◌∷◌, ◌≡◌, ◌≤◌}, Math.Nat.suc-mul, lemmas.{Grind.common_steps, List.Sums.sum_by-cons}}
use Rattle.std.{proofs.lemmas.{List.length-append, Nat.mul-le}, specs.{List.{AllByRecursion as All, sum_by}, Prelude.count_by}}
use Rattle.bq_core.{proofs.TurnLemmas.{kept_by_dispatch, kept_by_ends}, specs.{Kicking.all_kicked, Turns.Gives}}
use Rattle.bq_core_api.specs.{Cost.{changed_jobs, is_gone_or_changed, is_same_job, tubes_watched}, Outbox.Outbox}
use Rattle.bq_job.{proofs.{ListLemmas.all_weaker, LookupLemmas.job_in_map}, specs.beside.{AreIdsWithin, waiting_count}}
use Rattle.bq_job.specs.{declared.job.{Job.Job, JobState.JobState}, machine.{Chain, DispatchTurn, GivenAnswer, Machine.Machine, SeatRecord}}
use Rattle.bq_job.specs.machine.{WaitEndTurn, given_back, is_held_by, is_reserved, job_with, kicked, without_wait}
use Rattle.bq_jobs.proofs.Changes.{all_found}
use Rattle.bq_jobs.specs.{Ranks.is_listed, declared.places.JobList.JobList}
use Rattle.bq_state.specs.Cost.{waited_tubes}

-- counts over seats decrease as waits end
module _ (f : SeatRecord → ℕ) (less : (s : SeatRecord) → f (without_wait s) ≤ f s) where
  stops : (number : ℕ) (seats : List SeatRecord)
      → sum_by f (map (λ s. if s.number == number then without_wait s else s) seats) ≤ sum_by f seats
  stops number [] = omega arith
  stops number (s ∷ seats) = grind (arith, common_steps, sum_by-cons, less, stops number seats)

  pub handed_stop : (first : Machine) (given : List GivenAnswer) (last : Machine) → Chain DispatchTurn first given last
      → sum_by f last.seats ≤ sum_by f first.seats
  handed_stop first given last chain = kept_by_dispatch (λ m. sum_by f m.seats ≤ sum_by f first.seats)
      (λ m number h. omega (arith, stops number m.seats)) (λ m id moment seat h. h) first given last chain (omega arith)

  pub ended_stop : (first : Machine) (given : List GivenAnswer) (last : Machine) → Chain WaitEndTurn first given last
      → sum_by f last.seats ≤ sum_by f first.seats
  ended_stop first given last chain = kept_by_ends (λ m. sum_by f m.seats ≤ sum_by f first.seats)
      (λ m number h. omega (arith, stops number m.seats)) first given last chain (omega arith)

pub waited_less : (s : SeatRecord) → waited_tubes (without_wait s) ≤ waited_tubes s
waited_less s = omega arith

pub entries_less : (seat : ℕ) (s : SeatRecord) → tubes_watched seat (without_wait s) ≤ tubes_watched seat s
entries_less seat s = grind (arith, common_steps)

module _ (Turn : Machine → GivenAnswer → Machine → Type 0) (refused : List GivenAnswer → Bool) (first last : Machine) (old new : Outbox)
    (gives : Gives Turn refused first last old new) where
  pub given_length : length new.given - length old.given ≡ length gives.given
  given_length = let long = ap length gives.added ∙ length-append old.given gives.given in omega arith

  pub no_shorter : length old.given ≤ length new.given
  no_shorter = let long = ap length gives.added ∙ length-append old.given gives.given in omega arith

  -- a turn in which a waiting client stops waiting gives an answer
  pub one_longer : waiting_count last < waiting_count first → length old.given < length new.given
  one_longer falls = grind (arith, common_steps, length-append)

-- one more turn, with no more watched tubes
pub one_more_turn : (n more w v : ℕ) → n < more → v ≤ w → n * (w + 9) + (v + 9) ≤ more * (w + 9)
one_more_turn n more w v l u = omega (arith, mul-le (suc n) (w + 9) more (w + 9) (omega arith) (omega arith), suc-mul n (w + 9))

-- if all jobs are changed by id, those that pass and become different are counted
module _ (f : Job → Job) (keeps : (j : Job) → (f j).id ≡ j.id) (q : Job → Bool)
    (other : (j : Job) → q j ≡ true → is_same_job j (f j) ≡ false) where
  counted_among : (new jobs : List Job) → All (λ j. job_with j.id new ≡ Some (f j)) jobs
      → count_by q jobs ≤ count_by (λ j. is_gone_or_changed j (job_with j.id new)) jobs
  counted_among new [] all = omega arith
  counted_among new (j ∷ jobs) all = grind (arith, common_steps, other, counted_among new jobs all.1)

  pub changed_of : (low next : ℕ) (jobs : List Job) → AreIdsWithin low jobs next → count_by q jobs ≤ changed_jobs jobs (map f jobs)
  changed_of low next jobs ids = grind (arith, all_weaker, job_in_map, counted_among (map f jobs) jobs, all_found _ _ _ ids)

-- the jobs that a client loses are changed
pub given_back_changed : (state : JobState) (seat low next : ℕ) (jobs : List Job) → is_reserved state ≡ false → AreIdsWithin low jobs next
    → count_by (is_held_by seat) jobs ≤ changed_jobs jobs (map (given_back state seat) jobs)
given_back_changed state seat low next jobs free ids = grind (arith, common_steps, changed_of)

-- what no longer passes was counted once
passing_apart : (p : Job → Bool) (f : Job → Job) (jobs : List Job)
    → count_by p jobs ≤ count_by p (map f jobs) + count_by (λ j. p j && not (p (f j))) jobs
passing_apart p f [] = omega arith
passing_apart p f (j ∷ jobs) = grind (arith, common_steps, passing_apart p f jobs)

-- the jobs that are kicked are changed
pub kicked_changed : (list : JobList) (tube : List ℕ) → ((k : Job) → is_listed list tube (kicked k) ≡ false) → (chosen : List Job)
    (low next n : ℕ) (jobs : List Job) → AreIdsWithin low jobs next
    → count_by (is_listed list tube) (all_kicked chosen jobs) + n ≤ count_by (is_listed list tube) jobs
    → n ≤ changed_jobs jobs (all_kicked chosen jobs)
kicked_changed list tube out chosen low next n jobs ids few = grind (arith, changed_of, passing_apart)
