-- The next job, if it is known which jobs may be had.
use Rattle.std.proofs.Common.{Bool, List, None, Option, Some, [], arith, length, not, refl, true, ℕ, ◌&&◌, ◌∷◌, ◌≡◌, ◌≤◌}
use Rattle.std.proofs.lemmas.{Bool.{Decides.nat_tests, cases_Bool, eqb-true}, Grind.common_steps, List.Folds.Any-from_list_any}
use Rattle.std.{proofs.lemmas.List.Sums.sum_by-cons, specs.List.{AllByRecursion as All, Contains, list_any, sum_by}}
use Rattle.bq_core.proofs.{AskLemmas.asks_more, DispatchLemmas.{agreed, best_of, next_offer, offers}}
use Rattle.bq_job.{proofs.{KeptLemmas.only_seat, ListLemmas.{all_at, all_weaker, found_passes, list_any_with}}, specs.declared.job.Job.Job}
use Rattle.bq_job.specs.machine.{Machine.Machine, SeatRecord, is_paused, is_ready, is_waiting_for, seat_with}
use Rattle.bq_job.specs.reading.TubeName.{is_same_name}
use Rattle.bq_state.proofs.{ClientLemmas.some_pass, CountedLemmas.crowd_there, TubeLemmas.same_name, WarningLemmas.none_found}
use Rattle.bq_state.specs.{Cost.waited_tubes, Crowds.is_waiter, Offers.{is_waited_at, next_rank, these}, SeatChanges.AreNumbered}
use Rattle.bq_state.specs.{WantedJobs.{AreKnown, IsKnown}, declared.core_parts.CoreParts.CoreParts}
use Rattle.bq_state.specs.declared.known.wanted.Wanted.TheVariants.{Client, Tube}

-- some client passes
some_passes : (p : SeatRecord → Bool) (seats : List SeatRecord) → list_any p seats ≡ true
    → (s : SeatRecord) × Contains seats s × (p s ≡ true)
some_passes p seats h = let any = Any-from_list_any p seats h in (any.1, (any.0, any.2, any.3), any.4)

-- only the client at this seat may pass, if there is one
only_client : (m : Machine) (seat : ℕ) (o : Option SeatRecord) → AreNumbered m.seats → seat_with seat m.seats ≡ o → (j : Job)
    → All (IsKnown (Client seat) m.tubes j) m.seats → list_any (is_waiting_for m j) m.seats ≡ list_any (is_waiting_for m j) (these o)
only_client m seat None numbered found j all = grind (arith, common_steps, nat_tests, some_passes, all_at, none_found seat m.seats found)
only_client m seat (Some s) numbered found j all =
    let only = only_seat 0 (length m.seats) seat m.seats s numbered found in
    grind (arith, common_steps, cases_Bool, eqb-true, list_any_with, some_passes, found_passes, all_at)

-- what is handed out next, if only one client may have jobs
pub client_waits : (m : Machine) (seat : ℕ) (o : Option SeatRecord) → AreNumbered m.seats → seat_with seat m.seats ≡ o
    → AreKnown (Client seat) m.jobs m.seats m.tubes → next_rank m ≡ best_of m.jobs (λ j. list_any (is_waiting_for m j) (these o))
client_waits m seat o numbered found known = agreed m.jobs _ _ (all_weaker _ _ _ (only_client m seat o numbered found) known)

-- a client waits for a job if one waits for those of its tube, the job is ready, and the tube is not paused
waits_at_tube : (m : Machine) (j : Job) (seats : List SeatRecord)
    → list_any (is_waiting_for m j) seats ≡ (list_any (is_waiter j.tube) seats && (is_ready j && not (is_paused j.tube m)))
waits_at_tube m j [] = refl
waits_at_tube m j (s ∷ seats) = grind (arith, common_steps, waits_at_tube m j seats)

waits_at_name : (m : Machine) (j : Job) (name : List ℕ) → is_same_name name j.tube ≡ true
    → list_any (is_waiting_for m j) m.seats ≡ (list_any (is_waiter name) m.seats && (is_ready j && not (is_paused name m)))
waits_at_name m j name same = rw (same_name name j.tube same) (waits_at_tube m j m.seats)

-- only jobs of this tube may be had
only_at_tube : (m : Machine) (name : List ℕ) (j : Job) → All (IsKnown (Tube name) m.tubes j) m.seats
    → list_any (is_waiting_for m j) m.seats ≡ (list_any (is_waiter name) m.seats && offers (λ n. is_paused n m) name j)
only_at_tube m name j all = grind (arith, common_steps, cases_Bool, some_passes, all_at, waits_at_name m j name)

-- what is handed out next, if only jobs of one tube may be had
pub tube_waits : (m : Machine) (name : List ℕ) → AreKnown (Tube name) m.jobs m.seats m.tubes
    → next_rank m ≡ best_of m.jobs (λ j. list_any (is_waiter name) m.seats && offers (λ n. is_paused n m) name j)
tube_waits m name known = agreed m.jobs _ _ (all_weaker _ _ _ (only_at_tube m name) known)

pub client_entries : (seats : List SeatRecord) (seat : ℕ) (o : Option SeatRecord) → seat_with seat seats ≡ o
    → sum_by waited_tubes (these o) ≤ sum_by waited_tubes seats
client_entries seats seat o found = grind (arith, common_steps, sum_by-cons, all_at, found_passes)

pub tube_entries : (seats : List SeatRecord) (name : List ℕ) → list_any (is_waiter name) seats ≡ true → 1 ≤ sum_by waited_tubes seats
tube_entries seats name h = grind (arith, common_steps, cases_Bool, some_passes, all_at)

-- the tube's count decides whether a client waits for its jobs
pub counted_there : (name : List ℕ) (st : CoreParts) → is_waited_at name st.store.tubes ≡ list_any (is_waiter name) st.seats.items
counted_there name st =
    let there = crowd_there name st.store.tubes st.store.jobs.jobs st.seats.items st.sound.counts st.sound.entries.of_seats st.sound.seated
    in
    grind (arith, common_steps, there, some_pass)

-- what a search for the next job finds, and how many searches it makes
pub ruleset offers_found = (asks_more, client_entries, counted_there, next_offer, tube_entries)
