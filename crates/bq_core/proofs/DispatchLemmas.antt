-- Which job is handed out next, found tube by tube.
use Rattle.std.proofs.Common.{Bool, List, None, Option, Some, [], ap, arith, false, if◌then◌else◌, is_some, not, refl, rules, sym, true, ℕ, ◌&&◌}
use Rattle.std.proofs.{Common.{◌||◌, ◌∙◌, ◌∷◌, ◌≡◌}, Math.Bool.{or-false, or_assoc}}
use Rattle.std.proofs.lemmas.{Bool.{both_ways, cases_Bool, false_from_ne_true}, Grind.common_steps}
use Rattle.std.specs.{List.{AllByRecursion as All, list_any}, Prelude.{IfOk, Result, fold, option_map}}
use Rattle.bq_job.proofs.{ChoiceLemmas.{first_of_agrees, first_of_contains}, ComputedLemmas.{next_has_seat, next_seat_waits}}
use Rattle.bq_job.{proofs.ListLemmas.{all_always, all_at}, specs.beside.AreIdsWithin}
use Rattle.bq_job.specs.{declared.{fault.NoMemory.NoMemory, job.Job.Job}, machine.{SeatRecord, better_of, first_of, is_job_before}}
use Rattle.bq_job.specs.machine.{is_paused, is_ready, is_ready_in, is_wait_before, is_waiting, is_waiting_for, job_with, may_have, next_job}
use Rattle.bq_job.specs.{machine.{Machine.Machine, next_seat}, reading.TubeName.is_same_name}
use Rattle.bq_jobs.specs.{JobsSeen.ranked, Seen.{IsBodyOf, IsTubeOf}}
use Rattle.bq_state.{proofs.TubeLemmas.{paused_is, same_itself, same_name}, specs.{CoreParts.machine_of, Offers.{better_rank, offered}}}
use Rattle.bq_state.specs.{Offers.{waits_at, with_offer, with_offers}, TubesSeen.records, WantedJobs.AreKnown}
use Rattle.bq_state.specs.declared.{core_parts.CoreParts.CoreParts, known.wanted.Wanted.TheVariants.{Client, Tube}}
use Rattle.bq_core.{proofs.FiredTimerLemmas.chosen, specs.HandOuts.IsPicked}

-- neither the order of offers nor how they are grouped matters, and the same offer counts once
pub ranks_swap : (b x y : Option (ℕ × ℕ)) → better_rank (better_rank b x) y ≡ better_rank (better_rank b y) x
ranks_swap b x y = grind (arith, common_steps)

ranks_group : (a b c : Option (ℕ × ℕ)) → better_rank a (better_rank b c) ≡ better_rank (better_rank a b) c
ranks_group a b c = grind (arith, common_steps)

ranks_once : (a b c : Option (ℕ × ℕ)) → better_rank (better_rank a c) (better_rank b c) ≡ better_rank (better_rank a b) c
ranks_once a b c = grind (arith, common_steps)

-- the best so far by priority and id, including this job if it passes
abbrev with_rank : (Job → Bool) → Option (ℕ × ℕ) → Job → Option (ℕ × ℕ)
with_rank p best j = if p j then better_rank best (Some (ranked (λ j. j.pri) j)) else best

first_ranked : (p : Job → Bool) (best : Option Job) (jobs : List Job) → option_map (ranked (λ j. j.pri))
    (fold (better_of p is_job_before) best jobs) ≡ fold (with_rank p) (option_map (ranked (λ j. j.pri)) best) jobs
first_ranked p best [] = refl
first_ranked p best (j ∷ jobs) = grind (arith, common_steps, first_ranked p (better_of p is_job_before best j) jobs)

-- of the best ones by two tests, the better one is the best by both
both_ranked : (p q : Bool) (a b : Option (ℕ × ℕ)) (r : ℕ × ℕ)
    → better_rank (if p then better_rank a (Some r) else a) (if q then better_rank b (Some r) else b)
    ≡ (if p || q then better_rank (better_rank a b) (Some r) else better_rank a b)
both_ranked p q a b r =
    grind (arith, cases_Bool, ranks_once a b (Some r), ranks_group a b (Some r), ranks_swap a (Some r) b)

joined_from : (p q : Job → Bool) (a b : Option (ℕ × ℕ)) (jobs : List Job)
    → better_rank (fold (with_rank p) a jobs) (fold (with_rank q) b jobs) ≡ fold (with_rank (λ j. p j || q j)) (better_rank a b) jobs
joined_from p q a b [] = refl
joined_from p q a b (j ∷ jobs) = joined_from p q (with_rank p a j) (with_rank q b j) jobs
    ∙ ap (λ c. fold (with_rank (λ j. p j || q j)) c jobs) (both_ranked (p j) (q j) a b (ranked (λ j. j.pri) j))

module _ (jobs : List Job) where
  -- the best of the jobs that pass, by its priority and its id
  abbrev pub best_of : (Job → Bool) → Option (ℕ × ℕ)
  best_of p = option_map (ranked (λ j. j.pri)) (first_of p is_job_before jobs)

  pub agreed : (p q : Job → Bool) → All (λ j. p j ≡ q j) jobs → best_of p ≡ best_of q
  agreed p q same = ap (option_map (ranked (λ j. j.pri))) (first_of_agrees p q is_job_before jobs same)

  agreed_all : (p q : Job → Bool) → ((j : Job) → p j ≡ q j) → best_of p ≡ best_of q
  agreed_all p q same = λ i. best_of (λ j. same j i)

  joined : (p q : Job → Bool) → better_rank (best_of p) (best_of q) ≡ best_of (λ j. p j || q j)
  joined p q = simp first_ranked (joined_from p q None None jobs)

-- the best of them, only if this holds
pub only_if : (jobs : List Job) (b : Bool) (p : Job → Bool) → (if b then best_of jobs p else None) ≡ best_of jobs (λ j. b && p j)
only_if jobs true p = refl
only_if [] false p = refl
only_if (j ∷ jobs) false p = only_if jobs false p

other_name : (a b : List ℕ) → is_same_name a b ≡ false → is_same_name b a ≡ false
other_name a b e = search (rules, false_from_ne_true, both_ways)

module _ (paused : List ℕ → Bool) where
  -- what a tube offers
  abbrev pub offers : List ℕ → Job → Bool
  offers name j = not (paused name) && is_ready_in name j

  -- ready in one of these tubes, which isn't paused
  abbrev ready_among : List (List ℕ) → Job → Bool
  ready_among names j = is_ready j && list_any (is_same_name j.tube) names && not (paused j.tube)

  one_more_name : (name : List ℕ) (names : List (List ℕ)) (p : Job → Bool) (j : Job)
      → ((p j || offers name j) || ready_among names j) ≡ (p j || ready_among (name ∷ names) j)
  one_more_name name names p j = grind (arith, common_steps, cases_Bool, same_name, same_itself, other_name)

module _ (st : CoreParts) where
  abbrev jobs : List Job
  jobs = st.store.jobs.jobs

  abbrev paused : List ℕ → Bool
  paused name = is_paused name (machine_of st)

  pub offered_is : (name : List ℕ) → offered st.store.jobs.jobs (records st.store.tubes) name
      ≡ best_of st.store.jobs.jobs (offers (λ name. is_paused name (machine_of st)) name)
  offered_is name = grind (
    arith,
    common_steps,
    paused_is name (records st.store.tubes) st.sound.entries.order st.sound.entries.fresh,
    only_if jobs (not (paused name)) (is_ready_in name),
  )

  with_names : (names : List (List ℕ)) (p : Job → Bool)
      → fold (with_offer jobs (records st.store.tubes)) (best_of jobs p) names ≡ best_of jobs (λ j. p j || ready_among paused names j)
  with_names [] p = grind (arith, common_steps, agreed_all)
  with_names (name ∷ names) p = ap (λ b. fold (with_offer jobs (records st.store.tubes)) b names)
      (ap (better_rank (best_of jobs p)) (offered_is name) ∙ joined jobs p (offers paused name))
      ∙ with_names names (λ j. p j || offers paused name j) ∙ agreed_all jobs _ _ (one_more_name paused name names p)

  with_seat_at : (s : SeatRecord) (p : Job → Bool) (b : Bool)
      → (if b then fold (with_offer jobs (records st.store.tubes)) (best_of jobs p) s.watched else best_of jobs p) ≡ best_of jobs
      (λ j. p j || (b && may_have (machine_of st) s j))
  with_seat_at s p true = with_names s.watched p
  with_seat_at s p false = agreed_all jobs _ _ (λ j. sym (or-false (p j)))

  with_seats : (seats : List SeatRecord) (p : Job → Bool) → fold (with_offers jobs (records st.store.tubes)) (best_of jobs p) seats
      ≡ best_of jobs
      (λ j. p j || list_any (is_waiting_for (machine_of st) j) seats)
  with_seats [] p = agreed_all jobs _ _ (λ j. sym (or-false (p j)))
  with_seats (s ∷ seats) p = ap (λ o. fold (with_offers jobs (records st.store.tubes)) o seats) (with_seat_at s p (is_waiting s))
      ∙ with_seats seats (λ j. p j || is_waiting_for (machine_of st) j s) ∙ agreed_all jobs _ _ (λ j. or_assoc (p j) _ _)

  pub next_offer : (seats : List SeatRecord) → fold (with_offers st.store.jobs.jobs (records st.store.tubes)) None seats
      ≡ best_of st.store.jobs.jobs (λ j. list_any (is_waiting_for (machine_of st) j) seats)
  next_offer seats = ap (λ o. fold (with_offers jobs (records st.store.tubes)) o seats) (only_if jobs false (λ _. true))
      ∙ with_seats seats (λ _. false)

-- the id of the best one
pub id_of_best : (o : Option Job) → option_map (λ (r : ℕ × ℕ). r.1) (option_map (ranked (λ j. j.pri)) o) ≡ option_map (λ j. j.id) o
id_of_best o = grind (arith, common_steps)

-- a client that waits for jobs of the next job's tube waits for that job
pub waits_alike : (m : Machine) (j : Job) → next_job m ≡ Some j → (s : SeatRecord) → waits_at j.tube s ≡ is_waiting_for m j s
waits_alike m j e s = let first = next_has_seat m j e in grind (arith, common_steps, next_seat_waits m j first.0 first.1)

-- the client that gets the next job waits for jobs of its tube, and has waited longest among those
pub seat_at_tube : (m : Machine) (j : Job) → next_job m ≡ Some j → first_of (waits_at j.tube) is_wait_before m.seats ≡ next_seat m j
seat_at_tube m j e = grind (arith, common_steps, first_of_agrees, all_always, waits_alike)

-- if only jobs of one tube may be had, the next one is in it
tube_known : (m : Machine) (name : List ℕ) → AreKnown (Tube name) m.jobs m.seats m.tubes → (j : Job) → next_job m ≡ Some j → name ≡ j.tube
tube_known m name known j e =
    let first = next_has_seat m j e in
    let may = all_at _ _ _ known (first_of_contains _ _ _ _ e) in
    grind (arith, common_steps, next_seat_waits m j first.0 first.1, all_at, same_name)

-- if only one client may have jobs, it gets the next one
pub taker_known : (m : Machine) (waiter : ℕ) → AreKnown (Client waiter) m.jobs m.seats m.tubes → IsPicked m waiter
taker_known m waiter known j e =
    let first = next_has_seat m j e in
    let may = all_at _ _ _ known (first_of_contains _ _ _ _ e) in
    grind (arith, common_steps, next_seat_waits m j first.0 first.1, all_at)

-- the next job is the one with this id
pub next_is : (m : Machine) (id : ℕ) → AreIdsWithin 1 m.jobs m.next_id → Some id ≡ option_map (λ j. j.id) (next_job m)
    → next_job m ≡ job_with id m.jobs
next_is m id ids first = let one = chosen _ _ _ _ _ _ ids first in one.first ∙ sym one.found

module _ (st : CoreParts) where
  -- If only one client may have jobs, it gets the next one.
  pub taker_picked : (waiter : ℕ) → st.known.wanted ≡ Client waiter → (j : Job) → next_job (machine_of st) ≡ Some j
      → Some waiter ≡ option_map (λ s. s.number) (next_seat (machine_of st) j)
  taker_picked waiter is = taker_known (machine_of st) waiter (rw is at st.sound.known.wanted_jobs)

  module _ (id : ℕ) (first : Some id ≡ option_map (λ j. j.id) (next_job (machine_of st))) where
    next_here : next_job (machine_of st) ≡ job_with id st.store.jobs.jobs
    next_here = next_is (machine_of st) id st.sound.ids first

    pub next_there : false ≡ is_some (job_with id st.store.jobs.jobs) → false ≡ true
    next_there none = grind (arith, common_steps, next_here)

    -- a reference to its body
    pub body_of_next : (shared : Result (List ℕ) NoMemory) → IfOk shared (IsBodyOf (job_with id st.store.jobs.jobs))
        → IfOk shared (IsBodyOf (next_job (machine_of st)))
    body_of_next shared told = rw next_here told

    -- the tube that it is in
    pub tube_of_next : (name : List ℕ) → st.known.wanted ≡ Tube name → IsTubeOf (job_with id st.store.jobs.jobs) name
    tube_of_next name is j found =
        tube_known (machine_of st) name (rw is at st.sound.known.wanted_jobs) j (next_here ∙ found)

    -- the client that waits for jobs of its tube, and has waited longest among those, gets it
    module _ (seats : List SeatRecord) (seats_are : seats ≡ st.seats.items) (name tube : List ℕ) (name_is : name ≡ tube)
        (tube_is : IsTubeOf (job_with id st.store.jobs.jobs) tube) where
      pub picked_at_tube : (found : Option ℕ) → found ≡ option_map (λ s. s.number) (first_of (waits_at name) is_wait_before seats)
          → (j : Job) → next_job (machine_of st) ≡ Some j → found ≡ option_map (λ s. s.number) (next_seat (machine_of st) j)
      picked_at_tube found is j e = grind (arith, next_here, seat_at_tube (machine_of st) j e)

      pub none_picked : None ≡ option_map (λ s. s.number) (first_of (waits_at name) is_wait_before seats) → false ≡ true
      none_picked is =
          let one = chosen _ _ _ _ _ _ st.sound.ids first in
          let seat = next_has_seat (machine_of st) one.job one.first in
          ap is_some (picked_at_tube None is one.job one.first ∙ ap (option_map (λ (s : SeatRecord). s.number)) seat.1)
