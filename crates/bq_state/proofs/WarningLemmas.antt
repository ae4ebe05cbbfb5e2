-- What is known about the clients that wait while they hold a job.
use Rattle.std.proofs.Common.{List, None, Option, Some, [], ap, arith, false, if◌then◌else◌, inl, inr, map, refl, set, slice_get, sym, true}
use Rattle.std.proofs.{Common.{ℕ, ◌&&◌, ◌==◌, ◌||◌, ◌∙◌, ◌∷◌, ◌≡◌, ◌≤◌}, lemmas.{Bool.{and_parts, cases_Bool}, Grind.common_steps}}
use Rattle.std.specs.{List.{AllByRecursion as All, Contains, list_any}, Prelude.{count_by, fold, is_some, length}}
use Rattle.bq_job.proofs.{ChoiceLemmas.first_of_is_some, KeptLemmas.only_seat, ListLemmas.{all_at, all_both, all_from_members, all_of_map}}
use Rattle.bq_job.{proofs.ListLemmas.{all_weaker, list_any_not, none_pass}, specs.{declared.job.Job.Job, machine.{SeatRecord, is_held_by}}}
use Rattle.bq_job.specs.machine.{is_waiting, seat_with, watching}
use Rattle.bq_jobs.specs.{JobsSeen.with_added, Leases.is_lease_before}
use Rattle.bq_state.{proofs.PartsLemmas.{all_added, all_read, all_set}, specs.Dues.{earlier_of_both, warning_due, warning_due_at}}
use Rattle.bq_state.specs.{Dues.with_warning_due, SeatChanges.{AreNumbered, seat_changed_at}, Warnings.{AreWarned, has_waiting_holder}}
use Rattle.bq_state.specs.Warnings.{holds_in_wait, is_waiting_there, may_hold, may_warn, warned_by_seat, warned_if_due, with_holder}
use Rattle.bq_state.specs.{Warnings.with_holder_of, declared.known.warns.Warns.{TheVariants.{Client, Nothing}, Warns}}
use Rattle.bq_state.specs.declared.seats.SeatChange.{SeatChange, TheVariants.Wait}

-- with no other moment
pub no_other : (a : Option ℕ) → earlier_of_both a None ≡ a
no_other a = grind (arith, common_steps)

pub none_found : (number : ℕ) (seats : List SeatRecord) → seat_with number seats ≡ None → All (λ t. (t.number == number) ≡ false) seats
none_found number [] h = tt
none_found number (t ∷ seats) h = grind (arith, common_steps, none_found number seats)

-- the holder of a job is the client at the seat in the job's state
holder_found : (j : Job) (seats : List SeatRecord) (s : SeatRecord) → AreNumbered seats → Contains seats s → holds_in_wait j s ≡ true
    → has_waiting_holder j.state seats ≡ true
holder_found j seats s numbered here h = grind (arith, common_steps, and_parts, at)
  where
    at : (seat : ℕ) → (seat == s.number) ≡ true → (o : Option SeatRecord) → seat_with seat seats ≡ o → is_waiting_there o ≡ true
    at seat e None f = grind (arith, common_steps, none_found seat seats f)
    at seat e (Some t) f = grind (arith, common_steps, only_seat 0 (length seats) seat seats t numbered f)

-- a job is added
pub warned_added : (j : Job) (warns : Warns) (jobs : List Job) (seats : List SeatRecord) → AreNumbered seats → AreWarned warns jobs seats
    → AreWarned (if has_waiting_holder j.state seats then with_holder_of j.state warns else warns) (with_added j jobs) seats
warned_added j warns jobs seats numbered known = all_added _ _ _
    (all_from_members _ _ (λ s c h. grind (arith, common_steps, holder_found, and_parts)))
    (all_weaker _ _ _ (λ k all. all_weaker _ _ _ (λ s w h. grind (arith, common_steps, and_parts)) all) known)

-- a seat is changed
pub warned_of_seat : (number : ℕ) (what : SeatChange) (warns : Warns) (jobs : List Job) (seats : List SeatRecord)
    → may_hold what number warns jobs ≡ true → AreWarned warns jobs seats
    → AreWarned (warned_by_seat number what warns) jobs (map (seat_changed_at number what) seats)
warned_of_seat number what warns jobs seats holds known = all_from_members _ _ (λ j c. all_of_map _ _ _ (all_weaker _ _ _
    (λ s k w. grind (arith, common_steps, cases_Bool)) (all_at _ _ _ known c)))

-- a client watches other tubes
pub warned_watching : (names : List (List ℕ)) (i : ℕ) (s : SeatRecord) (warns : Warns) (jobs : List Job) (seats : List SeatRecord)
    → slice_get seats i ≡ Some s → AreWarned warns jobs seats → AreWarned warns jobs (set seats i (watching names s))
warned_watching names i s warns jobs seats here known = grind (arith, all_weaker, all_set, all_read)

-- a warning is due for a client if it waits and holds a job
due_if_held : (jobs : List Job) (s : SeatRecord) → is_some (warning_due jobs s) ≡ (is_waiting s && list_any (is_held_by s.number) jobs)
due_if_held jobs s = grind (arith, first_of_is_some (is_held_by s.number) is_lease_before jobs)

-- there is a first moment if there is any
due_if_any : {A : Type 0} (f : A → Option ℕ) (best : Option ℕ) (xs : List A)
    → is_some (fold (λ b x. earlier_of_both b (f x)) best xs) ≡ (is_some best || list_any (λ x. is_some (f x)) xs)
due_if_any f best [] = grind (arith, common_steps)
due_if_any f best (x ∷ xs) = grind (arith, common_steps, due_if_any f (earlier_of_both best (f x)) xs)

-- if no warning is due, no waiting client holds a job
pub warned_by_due : (warns : Warns) (jobs : List Job) (seats : List SeatRecord) → AreWarned warns jobs seats
    → AreWarned (warned_if_due (is_some (fold (with_warning_due jobs) None seats)) warns) jobs seats
warned_by_due warns jobs seats known = elim (cases_Bool (is_some (fold (with_warning_due jobs) None seats))) [
  | inl e ↦ rw e known
  | inr e ↦ rw e (all_from_members _ _ (λ j c. all_weaker _ _ _ (λ s none w. grind (arith, common_steps, due_if_held jobs s, and_parts))
      (none_pass _ _ (sym (due_if_any (warning_due jobs) None seats) ∙ e))))
]

-- no warning is due for a client that holds no job while it waits, by what is known
none_of_others : (warns : Warns) (jobs : List Job) (seats : List SeatRecord) → AreWarned warns jobs seats
    → All (λ s. may_warn warns s.number ≡ false → warning_due jobs s ≡ None) seats
none_of_others warns jobs seats known =
    all_from_members _ _ (λ s c e. grind (arith, common_steps, due_if_held jobs s, list_any_not, all_weaker, all_at))

still_due : (jobs : List Job) (best : Option ℕ) (seats : List SeatRecord)
    → All (λ s. earlier_of_both best (warning_due jobs s) ≡ best) seats → fold (with_warning_due jobs) best seats ≡ best
still_due jobs best [] all = refl
still_due jobs best (s ∷ seats) all = rw all.0 (still_due jobs best seats all.1)

-- No warning is due if no waiting client holds a job,
pub none_due : (jobs : List Job) (seats : List SeatRecord) → AreWarned Nothing jobs seats → fold (with_warning_due jobs) None seats ≡ None
none_due jobs seats known = grind (arith, common_steps, still_due, all_weaker, none_of_others)

-- and if only one client may hold one, the warning is its own.
among : (holder : ℕ) (jobs : List Job) (o : Option SeatRecord) (seats : List SeatRecord) → seat_with holder seats ≡ o
    → All (λ s. (s.number == holder) ≡ false → warning_due jobs s ≡ None) seats
    → ((t : SeatRecord) → o ≡ Some t → All (λ u. u.number ≡ holder → u ≡ t) seats)
    → fold (with_warning_due jobs) None seats ≡ warning_due_at jobs o
among holder jobs o [] e none only = ap (warning_due_at jobs) e
among holder jobs o (s ∷ seats) e none only =
    let rest = λ (is : o ≡ Some s). still_due jobs (warning_due jobs s) seats (all_weaker _ _ _
    (λ t k. grind (arith, common_steps, no_other)) (all_both _ _ _ (only s is).1 none.1)) in
    grind (arith, common_steps, rest, among holder jobs o seats)

pub one_due : (holder : ℕ) (jobs : List Job) (seats : List SeatRecord) → AreNumbered seats → AreWarned (Client holder) jobs seats
    → fold (with_warning_due jobs) None seats ≡ warning_due_at jobs (seat_with holder seats)
one_due holder jobs seats numbered known = grind (arith, among, only_seat, none_of_others)

-- if this client waits, at least one client waits
pub one_waits : (number : ℕ) (seats : List SeatRecord)
    → (if is_waiting_there (seat_with number seats) then 1 else 0) ≤ count_by is_waiting seats
one_waits number [] = omega arith
one_waits number (s ∷ seats) = grind (arith, common_steps, one_waits number seats)

-- what is known about a client that begins to wait
pub known_holds : (number ticket : ℕ) (until : Option ℕ) (warns was : Warns) (jobs : List Job)
    → warns ≡ (if list_any (is_held_by number) jobs then with_holder number was else was)
    → may_hold (Wait ticket until) number warns jobs ≡ true
known_holds number ticket until warns was jobs e = grind arith
