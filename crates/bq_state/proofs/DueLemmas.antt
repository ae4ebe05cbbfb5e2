-- The next due moment, from those of jobs, tubes and seats.
use Rattle.std.proofs.Common.{Bool, List, None, Option, Some, [], arith, false, inl, inr, not, refl, sym, ℕ, ◌&&◌, ◌++◌, ◌-◌, ◌==◌, ◌||◌}
use Rattle.std.proofs.{Common.{◌∙◌, ◌∷◌, ◌≡◌, ◌≤◌}, lemmas.{Bool.{Decides.nat_tests, cases_Bool}, Grind.common_steps}}
use Rattle.std.specs.{List.{AllByRecursion as All, list_all, list_any}, Prelude.{flat_map, fold, is_some, nat_lt, option_map}}
use Rattle.bq_job.proofs.{ChoiceLemmas.first_of_is_some, ListLemmas.{all_always, all_weaker, list_all_agree, list_all_from, list_any_not}}
use Rattle.bq_job.{proofs.ListLemmas.none_pass, specs.{beside.{dues_of_pause, dues_of_state, earliest, is_before}, declared.job.Job.Job}}
use Rattle.bq_job.specs.{declared.job.JobState.JobState, machine.{Machine.Machine, SeatRecord, TubeRecord, due_of, first_of, is_delayed}}
use Rattle.bq_job.specs.machine.{is_held_by, is_holder, is_pair_before, is_reserved, is_waiting}
use Rattle.bq_jobs.specs.{JobsSeen.ranked, Leases.{deadline_of, is_lease_before}}
use Rattle.bq_state.{proofs.{WalkLemmas.walked, WarningLemmas.no_other}, specs.Dues.{earlier_of_both, jobs_due, timers_due, warning_due}}
use Rattle.bq_state.specs.{Dues.{with_seat_due, with_warning_due}, FirstTimeouts.{IsThere, is_gone_in_wait}, SeatChanges.AreNumbered}
use Rattle.bq_state.specs.{TubeEntries.{IsFreshUnlessCounted, counted}, WaitingList.{at_waiter, waiters_of}}
use Rattle.bq_job.specs.declared.job.JobState.TheVariants as states

-- every waiting client can still send
pub all_there : (seats : List SeatRecord) → false ≡ list_any is_gone_in_wait seats → All IsThere seats
all_there seats none = none_pass is_gone_in_wait seats (sym none)

-- A client holds a job if one of its leases ends first.
pub held_some : (seat : ℕ) (jobs : List Job)
    → is_some (option_map (ranked (λ j. deadline_of j.state)) (first_of (is_held_by seat) is_lease_before jobs)) ≡ list_any
    (is_held_by seat) jobs
held_some seat jobs = grind (arith, first_of_is_some (is_held_by seat) is_lease_before jobs)

-- If no client holds a job, this one does not.
pub none_held : (seat : ℕ) (jobs : List Job) → list_any (λ j. is_reserved j.state) jobs ≡ false → list_any (is_held_by seat) jobs ≡ false
none_held seat jobs none = grind (arith, common_steps, list_any_not, all_weaker, none_pass)

-- A walk over the waiting clients finds the first timeout, and the first DEADLINE_SOON.
pub ends_walked : (seats : List SeatRecord) → AreNumbered seats
    → fold (at_waiter with_seat_due seats) None (waiters_of seats) ≡ fold with_seat_due None seats
ends_walked seats h = grind (arith, walked)

pub warnings_walked : (jobs : List Job) (seats : List SeatRecord) → AreNumbered seats
    → fold (at_waiter (with_warning_due jobs) seats) None (waiters_of seats) ≡ fold (with_warning_due jobs) None seats
warnings_walked jobs seats h = grind (arith, common_steps, walked, no_other)

pub earliest_of_both : (xs ys : List ℕ) → earliest (xs ++ ys) ≡ earlier_of_both (earliest xs) (earliest ys)
earliest_of_both [] ys = refl
earliest_of_both (x ∷ xs) ys = grind (arith, earliest_of_both xs ys)

earliest_from : {A : Type 0} (f : A → List ℕ) (best : Option ℕ) (xs : List A)
    → fold (λ b x. earlier_of_both b (earliest (f x))) best xs ≡ earlier_of_both best (earliest (flat_map f xs))
earliest_from f best [] = sym (no_other best)
earliest_from f best (x ∷ xs) = grind (arith, earliest_of_both, earliest_from f (earlier_of_both best (earliest (f x))) xs)

-- the earliest of all moments, found step by step
pub earliest_of_all : {A : Type 0} (f : A → List ℕ) (xs : List A)
    → fold (λ b x. earlier_of_both b (earliest (f x))) None xs ≡ earliest (flat_map f xs)
earliest_of_all f xs = earliest_from f None xs

-- a tube without counts has no pause that ends
pub pauses_counted : (entries : List TubeRecord) → All IsFreshUnlessCounted entries
    → flat_map (λ t. dues_of_pause t.pause) entries ≡ flat_map (λ t. dues_of_pause t.pause) (counted entries)
pauses_counted [] fresh = refl
pauses_counted (t ∷ entries) fresh = grind (arith, pauses_counted entries fresh.1)

-- all three lists together
pub all_due : (xs ys zs : List ℕ) → earliest (xs ++ ys ++ zs) ≡ earlier_of_both (earliest xs) (earlier_of_both (earliest ys) (earliest zs))
all_due xs ys zs = grind (arith, earliest_of_both)

-- Two optional moments are equal if the same moments come before them.
told_by_before : (o u : Option ℕ) → ((t : ℕ) → is_before t o ≡ is_before t u) → o ≡ u
told_by_before None None h = refl
told_by_before None (Some b) h = grind (arith, nat_tests, h b)
told_by_before (Some a) None h = grind (arith, nat_tests, h a)
told_by_before (Some a) (Some b) h = grind (arith, nat_tests, h a, h b)

-- The result of a fold passes a test if all elements pass another one.
tested_fold : {A B : Type 0} (q : B → Bool) (p : A → Bool) (step : B → A → B) → ((b : B) (x : A) → q (step b x) ≡ (q b && p x))
    → (b : B) (xs : List A) → q (fold step b xs) ≡ (q b && list_all p xs)
tested_fold q p step each b [] = grind (arith, common_steps)
tested_fold q p step each b (x ∷ xs) = grind (arith, each, tested_fold q p step each (step b x) xs)

-- tests by rows and by columns agree
all_of_both : {A : Type 0} (p q : A → Bool) (xs : List A) → (list_all p xs && list_all q xs) ≡ list_all (λ x. p x && q x) xs
all_of_both p q [] = refl
all_of_both p q (x ∷ xs) = grind (arith, all_of_both p q xs)

all_turned : {A B : Type 0} (p : A → B → Bool) (xs : List A) (ys : List B)
    → list_all (λ x. list_all (p x) ys) xs ≡ list_all (λ y. list_all (λ x. p x y) xs) ys
all_turned p [] ys = grind (arith, list_all_from, all_always)
all_turned p (x ∷ xs) ys = grind (arith, all_of_both (p x), all_turned p xs ys)

-- the due moments of jobs
module _ (m : Machine) (t : ℕ) where
  before_both : (o u : Option ℕ) → is_before t (earlier_of_both o u) ≡ (is_before t o && is_before t u)
  before_both o u = grind (arith)

  fold_before : {A : Type 0} (f : A → Option ℕ) (xs : List A)
      → is_before t (fold (λ b x. earlier_of_both b (f x)) None xs) ≡ list_all (λ x. is_before t (f x)) xs
  fold_before f xs = tested_fold (is_before t) _ _ (λ b x. before_both b (f x)) None xs

  -- the first of the jobs that pass is after a moment if and only if all of them are
  first_before : (p : Job → Bool) (number g : Job → ℕ) → ((a b : Job) → number a ≤ number b → g a ≤ g b) → (jobs : List Job)
      → is_before t (option_map g (first_of p (λ a b. is_pair_before (number a) a.id (number b) b.id) jobs)) ≡ list_all
      (λ j. not (p j) || nat_lt t (g j)) jobs
  first_before p number g rises jobs =
      tested_fold (λ o. is_before t (option_map g o)) _ _ (λ o j. grind (arith, common_steps, cases_Bool, nat_tests, rises)) None jobs

  -- the client's warning for a job in this state, if any, is due only after the moment
  abbrev warned : JobState → SeatRecord → Bool
  warned state s = not (is_waiting s) || (not (is_holder s.number state) || nat_lt t (deadline_of state - 1000))

  warning_before : (s : SeatRecord) → is_before t (warning_due m.jobs s) ≡ list_all (λ j. warned j.state s) m.jobs
  warning_before s = elim (cases_Bool (is_waiting s)) [
    | inl e ↦ rw e (first_before _ (λ j. deadline_of j.state) (λ j. deadline_of j.state - 1000) (λ a b le. omega arith) m.jobs)
    | inr e ↦ rw e (grind (arith, list_all_from, all_always))
  ]

  holder_warned : (seat deadline : ℕ) (seats : List SeatRecord)
      → list_all (warned (states.Reserved seat deadline)) seats ≡
      (not (list_any (λ s. s.number == seat && is_waiting s) seats) || nat_lt t (deadline - 1000))
  holder_warned seat deadline [] = refl
  holder_warned seat deadline (s ∷ seats) = grind (arith, holder_warned seat deadline seats)

  -- all due moments of a job in this state are after the moment
  abbrev is_later : JobState → Bool
  is_later state = (not (is_delayed state) || nat_lt t (due_of state)) && (not (is_reserved state) || nat_lt t (deadline_of state))
      && list_all (warned state) m.seats

  state_later : (state : JobState) → is_later state ≡ is_before t (earliest (dues_of_state m state))
  state_later state = grind (arith, list_all_from, all_always, holder_warned)

  jobs_later : is_before t (jobs_due m.jobs m.seats)
      ≡ is_before t (fold (λ b j. earlier_of_both b (earliest (dues_of_state m j.state))) None m.jobs)
  jobs_later =
      let due = first_before (λ j. is_delayed j.state) (λ j. due_of j.state) (λ j. due_of j.state) (λ a b le. le) m.jobs in
      let deadline = first_before (λ j. is_reserved j.state) (λ j. deadline_of j.state) (λ j. deadline_of j.state) (λ a b le. le) m.jobs in
      let warning = fold_before (warning_due m.jobs) m.seats ∙ list_all_agree _ _ warning_before m.seats
      ∙ all_turned (λ s j. warned j.state s) m.seats m.jobs in
      let dues = fold_before (λ j. earliest (dues_of_state m j.state)) m.jobs in
      let each = list_all_agree (λ (j : Job). is_later j.state) _ (λ j. state_later j.state) m.jobs in
      before_both (timers_due m.jobs) (fold (with_warning_due m.jobs) None m.seats) ∙ grind (arith, common_steps, before_both, all_of_both)

-- the first due moment of jobs, found by the first of each kind
pub jobs_due_is : (m : Machine) → jobs_due m.jobs m.seats ≡ earliest (flat_map (λ j. dues_of_state m j.state) m.jobs)
jobs_due_is m = told_by_before (jobs_due m.jobs m.seats) _ (λ t. jobs_later m t) ∙ earliest_of_all (λ j. dues_of_state m j.state) m.jobs
