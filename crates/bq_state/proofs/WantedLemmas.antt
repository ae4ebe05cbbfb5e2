-- What is known about the jobs that waiting clients may receive.
use Rattle.std.proofs.Common.{rules}
use Rattle.std.proofs.Common.{Bool, List, None, Some, [], arith, filter, find, if◌then◌else◌, is_some, map, refl, set, slice_get, sym, true}
use Rattle.std.{proofs.{Common.{ℕ, ◌&&◌, ◌||◌, ◌∙◌, ◌∷◌, ◌≡◌}, lemmas.{Bool.cases_Bool, Grind.common_steps}}, specs.List.list_any}
use Rattle.bq_job.proofs.{ChoiceLemmas.{first_of_none, first_of_none_passes}, ListLemmas.{all_always, all_at, all_from_members, all_of_map}}
use Rattle.bq_job.{proofs.ListLemmas.{all_weaker, find_in_filter, list_any_not, none_pass}, specs.declared.job.Job.Job}
use Rattle.bq_job.specs.machine.{Machine.Machine, SeatRecord, TubeRecord, forgetting, is_paused, is_ready, is_tube, is_waiting}
use Rattle.bq_job.specs.machine.{is_waiting_for, next_job, tube_record, watching, with_record, with_tube}
use Rattle.bq_job.specs.reading.TubeName.{is_same_name}
use Rattle.bq_jobs.specs.JobsSeen.{with_added}
use Rattle.bq_state.proofs.{PartsLemmas.{all_added, all_read, all_set, tube_name_kept}, TubeLemmas.{found_name, same_itself}}
use Rattle.bq_state.proofs.TubeLemmas.{same_name}
use Rattle.bq_state.specs.{Crowds.is_waiter, SeatChanges.seat_changed_at, TubeEntries.tube_changed, WantedJobs.{AreKnown, is_nothing}}
use Rattle.bq_state.specs.WantedJobs.{may_get, wanted_after_seat, wanted_after_tube, with_wanted}
use Rattle.bq_state.specs.declared.{known.wanted.Wanted.{TheVariants.{Any, Nothing}, Wanted}, seats.SeatChange.SeatChange}
use Rattle.bq_state.specs.declared.tubes.entry.TubeChange.{TubeChange}

-- a job that a client could receive can still be received, and so can one of this tube
still_wanted : (name : List ℕ) (wanted : Wanted) (tube : List ℕ) (seat : ℕ) → (may_get wanted tube seat || is_same_name name tube) ≡ true
    → may_get (with_wanted name wanted) tube seat ≡ true
still_wanted name wanted tube seat h = search (rules, same_name, same_itself)

-- there is no next job
pub known_nothing : (m : Machine) → next_job m ≡ None → AreKnown Nothing m.jobs m.seats m.tubes
known_nothing m none = all_weaker _ _ _ (λ j no. all_weaker _ _ _ (λ s f w. sym f ∙ w) (none_pass _ _ no))
    (none_pass _ _ (first_of_none (λ j. list_any (is_waiting_for m j) m.seats) _ _ none))

-- there is no next job if no client may receive one
pub none_known : (wanted : Wanted) (m : Machine) → is_nothing wanted ≡ true → AreKnown wanted m.jobs m.seats m.tubes → next_job m ≡ None
none_known wanted m e known =
    first_of_none_passes (λ j. list_any (is_waiting_for m j) m.seats) _ _ (list_any_not _ _ (all_weaker _ _ _
    (λ j all. list_any_not _ _ (all_weaker _ _ _ (λ s k. grind (arith, common_steps, cases_Bool)) all)) known))

-- a job is added
pub known_added : (j : Job) (wanted : Wanted) (jobs : List Job) (seats : List SeatRecord) (tubes : List TubeRecord)
    → AreKnown wanted jobs seats tubes
    → AreKnown (if is_ready j && list_any (is_waiter j.tube) seats then with_wanted j.tube wanted else wanted)
    (with_added j jobs) seats tubes
known_added j wanted jobs seats tubes known = all_added _ _ _
    (all_from_members _ _ (λ s c w. grind (arith, common_steps, cases_Bool, still_wanted, same_itself)))
    (all_weaker _ _ _ (λ k all. all_weaker _ _ _ (λ s known w. grind (arith, common_steps, cases_Bool, still_wanted)) all) known)

-- a seat is changed
pub known_of_seat : (number : ℕ) (what : SeatChange) (wanted : Wanted) (jobs : List Job) (seats : List SeatRecord) (tubes : List TubeRecord)
    → AreKnown wanted jobs seats tubes
    → AreKnown (wanted_after_seat number what wanted) jobs (map (seat_changed_at number what) seats) tubes
known_of_seat number what wanted jobs seats tubes known = grind (arith, all_weaker, all_of_map)

-- a client watches other tubes: it may receive any job if it waits
pub known_watching : (names : List (List ℕ)) (i : ℕ) (s : SeatRecord) (wanted : Wanted) (jobs : List Job) (seats : List SeatRecord)
    (tubes : List TubeRecord) → AreKnown wanted jobs seats tubes
    → AreKnown (if is_waiting s then Any else wanted) jobs (set seats i (watching names s)) tubes
known_watching names i s wanted jobs seats tubes known = grind (arith, all_weaker, all_set)

-- a client watches fewer
any_left : (p q : List ℕ → Bool) (names : List (List ℕ)) → list_any p (filter q names) ≡ true → list_any p names ≡ true
any_left p q [] h = absurd cc
any_left p q (name ∷ names) h = grind (arith, common_steps, any_left p q names)

pub known_ignoring : (q : List ℕ → Bool) (i : ℕ) (s : SeatRecord) (wanted : Wanted) (jobs : List Job) (seats : List SeatRecord)
    (tubes : List TubeRecord) → slice_get seats i ≡ Some s → AreKnown wanted jobs seats tubes
    → AreKnown wanted jobs (set seats i (watching (filter q s.watched) s)) tubes
known_ignoring q i s wanted jobs seats tubes here known = grind (arith, all_weaker, all_set, all_read, any_left)

-- the record of a tube after one is put among the others
found_with : (name : List ℕ) (t : TubeRecord) (tubes : List TubeRecord) → find (λ u. is_same_name name u.name) (with_record t tubes)
    ≡ (if is_same_name name t.name then Some t else find (λ u. is_same_name name u.name) tubes)
found_with name t [] = refl
found_with name t (u ∷ us) = grind (arith, same_name t.name, same_name name, same_itself, found_with name t us)

-- Only the end of a tube's pause allows its jobs to be received.
still_paused : (tube : List ℕ) (f : TubeRecord → TubeRecord) (m : Machine) → ((t : TubeRecord) → (f t).name ≡ t.name) → (name : List ℕ)
    → (name ≡ tube → is_paused name m ≡ true → is_some (f (tube_record tube m)).pause ≡ true) → is_paused name m ≡ true
    → is_paused name (with_tube tube f m) ≡ true
still_paused tube f m keeps name stays paused = grind (arith, found_with, same_name, found_name)

pub known_of_change : (tube : List ℕ) (what : TubeChange) (m : Machine) (wanted : Wanted) → AreKnown wanted m.jobs m.seats m.tubes
    → AreKnown (wanted_after_tube tube what wanted) m.jobs m.seats (with_tube tube (tube_changed what) m).tubes
known_of_change tube what m wanted known = all_weaker _ _ _ (λ j all. all_weaker _ _ _ (λ s k w.
    let still = still_paused tube (tube_changed what) m (tube_name_kept what) in
    grind (arith, common_steps, cases_Bool, still_wanted, same_itself, still)) all) known

-- an entry that is dropped belongs to no tube with a job
pub known_forgotten : (m : Machine) (wanted : Wanted) → AreKnown wanted m.jobs m.seats m.tubes
    → AreKnown wanted m.jobs m.seats (forgetting m).tubes
known_forgotten m wanted known = all_from_members _ _ (λ j c. all_weaker _ _ _ (λ s k w.
    let same = find_in_filter (λ t. is_same_name j.tube t.name) (λ t. is_tube t.name m) m.tubes in
    grind (arith, common_steps, all_always, same_name j.tube, same)) (all_at _ _ _ known c))
