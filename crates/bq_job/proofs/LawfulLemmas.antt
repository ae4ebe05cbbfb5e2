-- A new model is lawful and stays so after every step, and a step gives few answers.
use Rattle.bq_job.proofs.ComputedLemmas.{next_end_waits}
use Rattle.bq_job.specs.machine.{DispatchTurn, end_of_wait, is_closed_answer, is_waiting, next_end}
use Rattle.std.specs.List.{list_all}
use Rattle.std.proofs.Common.{ℕ, zero, suc, ◌≡◌, ◌≤◌, ◌+◌, true, false, List, [], ◌∷◌}
use Rattle.std.proofs.Common.{map, length, arith, refl, sym, ap, ◌∙◌, subst, inl, inr, Option, Some, None, rules}
use Rattle.std.proofs.lemmas.{Bool.{cases_Bool, cond_both, eq-eqb, le-leb, or_left, or_right}, Grind.common_steps}
use Rattle.std.proofs.lemmas.List.{Elements.{filter_passes, recursion_from_All}, length-append, length-map, Sums.count_by-le-length}
use Rattle.std.specs.{Cmp.Lexicographic.bytes_decides, List.{Contains, list_any}, Prelude.◌==◌}
use Rattle.bq_job.specs.machine.{Chain, GivenAnswer, IsHandOut, IsStep, Machine.Machine, Memory}
use Rattle.bq_job.specs.machine.{Outcome, SeatRecord, Serves, Settings, TubeRecord, WaitEndTurn, acted, addressed, after_timers, at_moment}
use Rattle.bq_job.specs.machine.{is_waiting_for, job_after_timers, new_machine, next_job, next_seat}
use Rattle.bq_job.specs.machine.{numbers, reserved_by, share_refused, with_job, with_seat, with_timeout, without_wait}
use Rattle.bq_job.specs.{beside.{IsLawful, has_open_holder, waiting_count, watches_once}, machine.empty_seat}
use Rattle.bq_job.specs.machine.{forgetting, granted, growth_refused, in_state, is_paused}
use Rattle.bq_job.specs.{machine.is_tube, reading.TubeName.is_same_name, Types.{Answer, Job, Step}}
use Rattle.bq_job.specs.declared.job.JobState.TheVariants as states
use Rattle.bq_job.proofs.Trace.{IsServing, keeping, of_serves, of_turns}
use Rattle.bq_job.proofs.KeptLemmas.{Keeps, has_holder, is_open_wait, kept_of_job, kept_of_jobs, kept_of_lawful, kept_of_seat}
use Rattle.bq_job.proofs.ListLemmas.{all_always, all_at, all_from_members, all_of_map, all_weaker}
use Rattle.bq_job.proofs.ListLemmas.{find_in_filter, list_all_from, list_any_not, list_any_with, none_pass}
use Rattle.bq_job.proofs.RecordLemmas.{Booked, booked, booked_acted, booked_forgetting, booked_of_lawful, booked_timers}
use Rattle.bq_job.proofs.{ActLemmas.{Leaves, answer_count, held_here, leaves_effect}, ChoiceLemmas.first_of_agrees}
use Rattle.bq_job.proofs.{ChoiceLemmas.{first_of_none, first_of_none_passes}}
use Rattle.bq_job.proofs.ComputedLemmas.{next_seat_waits, waiting_falls}
use Rattle.bq_job.proofs.DispatchLemmas.{turn_of}

-- what timers make of a job: ready, ready with one more timeout, or unchanged
pub after_timers_is : (moment : ℕ) (j : Job) (P : Job → Type 0) → P (in_state states.Ready j)
    → P (record j { state = states.Ready; counts = with_timeout j.counts }) → P j → P (job_after_timers moment j)
after_timers_is moment j P due expired same = grind (arith, common_steps, cond_both)

-- Timers keep the invariant.
pub kept_of_timers : (at : ℕ) (m : Machine) → Keeps m → Keeps (forgetting (after_timers (at_moment at m)))
kept_of_timers at m h =
    let now = (at_moment at m).moment in
    kept_of_jobs h (job_after_timers now)
    (λ j. after_timers_is now j (λ k. k.id ≡ j.id) refl refl refl)
    (λ j i. after_timers_is now j (λ k. has_holder m.seats k ≡ true) refl refl i)

-- A wait that ends keeps the invariant.
kept_without_wait : (number : ℕ) (m : Machine) → Keeps m → Keeps (with_seat number without_wait m)
kept_without_wait number m h = grind (arith, all_always, kept_of_seat h number without_wait)

-- Turns keep the invariant, and there are at most as many as clients stop waiting.
pub record AreTurns (first : Machine) (given : List GivenAnswer) (last : Machine) : Type 0 where
  pub keeps : Keeps last
  pub waiting : length given + waiting_count last ≤ waiting_count first

keeps_hand_out : (m : Machine) (j : Job) (s : SeatRecord) (given : GivenAnswer) (next : Machine) → Keeps m → next_seat m j ≡ Some s
    → IsHandOut m j s given next → Keeps next
keeps_hand_out m j s given next h f (inl i) =
    let w = next_seat_waits m j s f in
    let c : s.connected ≡ true = rw w.1 at (all_at (λ s. is_open_wait s ≡ true) m.seats s h.waits w.0) in
    rw i.1 (kept_without_wait s.number (with_job j.id (reserved_by m.moment s.number) m)
    (kept_of_job h j.id (reserved_by m.moment s.number) (λ k. refl)
    (λ k. held_here m s (reserved_by m.moment s.number k) w.0 c (eq-eqb s.number s.number refl))))
keeps_hand_out m j s given next h f (inr i) = rw i.1 (kept_without_wait s.number m h)

-- a wait that ends has a client
pub record End (m : Machine) (given : GivenAnswer) (next : Machine) : Type 0 where
  pub client : SeatRecord
  pub client_is : next_end m ≡ Some client
  pub given_is : given ≡ (client.number, end_of_wait m client)
  pub next_is : next ≡ with_seat client.number without_wait m

pub end_of : (m : Machine) (given : GivenAnswer) (next : Machine) → WaitEndTurn m given next → End m given next
end_of m given next turn = grind (arith, common_steps)

-- A turn answers this client, which then waits no longer.
pub record Answers (s : SeatRecord) (m : Machine) (given : GivenAnswer) (next : Machine) : Type 0 where
  pub there : Contains m.seats s
  pub waits : is_waiting s ≡ true
  pub number : given.0 ≡ s.number
  pub unclosed : is_closed_answer given.1 ≡ false
  pub seats_are : next.seats ≡ (with_seat s.number without_wait m).seats

pub dispatch_answers : (m : Machine) (given : GivenAnswer) (next : Machine) (turn : DispatchTurn m given next)
    → Answers (turn_of m given next turn).client m given next
dispatch_answers m given next turn =
    let t = turn_of m given next turn in grind (arith, common_steps, next_seat_waits m t.job t.client t.client_is)

pub end_answers : (m : Machine) (given : GivenAnswer) (next : Machine) (turn : WaitEndTurn m given next)
    → Answers (end_of m given next turn).client m given next
end_answers m given next turn =
    let e = end_of m given next turn in grind (arith, common_steps, next_end_waits m e.client e.client_is, cond_both)

-- a turn after which the invariant holds
turn_keeps : (s : SeatRecord) (m : Machine) (given : GivenAnswer) (next : Machine) → Answers s m given next → Keeps next
    → AreTurns m (given ∷ []) next
turn_keeps s m given next a keeps = grind (arith, waiting_falls m s a.there a.waits, a.seats_are)

pub turns : IsServing (λ m given n. Keeps m → AreTurns m given n)
turns = record {
  trace = grind (arith, common_steps, cases_Bool, length-append);
  dispatch = λ m g n turn h.
      let t = turn_of m g n turn in
      turn_keeps t.client m g n (dispatch_answers m g n turn) (keeps_hand_out m t.job t.client g n h t.client_is t.hands);
  wait_end = λ m g n turn h.
      let e = end_of m g n turn in
      turn_keeps e.client m g n (end_answers m g n turn) (rw e.next_is (kept_without_wait e.client.number m h));
  forgets = λ m h. record { keeps = h; waiting = omega arith };
}

-- what dispatch and the ends of waits leave
pub record HasServed (first : Machine) (handed ended : List GivenAnswer) (last : Machine) : Type 0 where
  pub keeps : Keeps last
  pub waiting : length handed + length ended + waiting_count last ≤ waiting_count first

pub served : (first : Machine) (handed ended : List GivenAnswer) (last : Machine) → Keeps first → Serves first handed ended last
    → HasServed first handed ended last
served first handed ended last h s =
    let t = of_serves turns first handed ended last s h in grind (arith, length-append)

-- Only records of tubes that don't exist are forgotten, so a job's tube stays paused or unpaused.
record_kept : (m : Machine) (j : Job) (t : TubeRecord) → Contains m.jobs j → is_same_name j.tube t.name ≡ true → is_tube t.name m ≡ true
record_kept m j t i e =
    let same : j.tube ≡ t.name = (bytes_decides j.tube t.name).0 e in
    grind (arith, common_steps, list_any_with, or_left, or_right)

paused_as_before : (m : Machine) (j : Job) → Contains m.jobs j → is_paused j.tube (forgetting m) ≡ is_paused j.tube m
paused_as_before m j i = grind (arith, common_steps, find_in_filter, all_always, record_kept)

wanted_as_before : (m : Machine) (j : Job) → Contains m.jobs j
    → list_any (is_waiting_for (forgetting m) j) m.seats ≡ list_any (is_waiting_for m j) m.seats
wanted_as_before m j i = grind (arith, common_steps, paused_as_before m j i)

next_job_as_before : (m : Machine) → next_job (forgetting m) ≡ next_job m
next_job_as_before m = search (rules, first_of_agrees, all_from_members, wanted_as_before)

-- The end of a wait does not make a job available to a waiting client.
still_unwanted : (number : ℕ) (m : Machine) (j : Job) → list_any (is_waiting_for m j) m.seats ≡ false
    → list_any (is_waiting_for (with_seat number without_wait m) j) (with_seat number without_wait m).seats ≡ false
still_unwanted number m j h =
    list_any_not _ _ (all_of_map _ _ m.seats (all_weaker _ _ m.seats (λ s i. cond_both (s.number == number) (without_wait s) s
    (λ t. is_waiting_for (with_seat number without_wait m) j t ≡ false) (λ e. refl) (λ e. i)) (none_pass (is_waiting_for m j) m.seats h)))

dispatched_through_ends : (first : Machine) (given : List GivenAnswer) (last : Machine) → Chain WaitEndTurn first given last
    → next_job first ≡ None → next_job last ≡ None
dispatched_through_ends = of_turns WaitEndTurn (keeping (λ m. next_job m ≡ None))
    (λ m g n turn h. let e = end_of m g n turn in rw e.next_is (first_of_none_passes _ _ m.jobs (list_any_not _ m.jobs
    (all_weaker _ _ m.jobs (λ j. still_unwanted e.client.number m j) (none_pass _ m.jobs (first_of_none _ _ m.jobs h))))))

-- once the others are forgotten, all records are of tubes that exist
pub only_tubes : (m : Machine) → list_all (λ t. is_tube t.name (forgetting m)) (forgetting m).tubes ≡ true
only_tubes m = list_all_from _ _ (recursion_from_All _ _ (filter_passes (λ t. is_tube t.name m) m.tubes))

-- After dispatch and the ends of waits the model is lawful.
lawful_when_served : (first : Machine) (handed ended : List GivenAnswer) (last : Machine) → Keeps first → Booked first
    → Serves first handed ended last → IsLawful last
lawful_when_served first handed ended last keeps books s =
    let d = s.dispatches in
    let e = s.ends_waits in
    let m = e.end in
    let h : Keeps m = rw e.forgets at (served first handed ended last keeps s).keeps in
    let b : Booked (forgetting m) = rw e.forgets at (of_serves booked first handed ended last s books) in
    rw e.forgets (record {
      ids = h.ids;
      next = h.accepts;
      next_fits = h.fits;
      holders = list_all_from (has_open_holder m) m.jobs h.holders;
      seats = h.seated;
      waits = list_all_from is_open_wait m.seats h.waits;
      dispatched = next_job_as_before m
          ∙ dispatched_through_ends s.between ended m e.turns (ap next_job d.forgets ∙ next_job_as_before d.end ∙ d.done);
      wait_ends = e.done;
      tubes = only_tubes m;
      tube_order = b.order;
      watched = list_all_from watches_once m.seats b.watched;
      counts = grind (arith, common_steps, list_all_from, le-leb);
    })

-- The model before a command's own effect is lawful.
pub lawful_before : (first last : Machine) (at seat : ℕ) (what : Step) (outcome : Outcome) (given : List GivenAnswer) → IsLawful first
    → (s : IsStep first at seat what outcome given last) → IsLawful s.before
lawful_before first last at seat what outcome given h s =
    lawful_when_served (forgetting (after_timers (at_moment at first))) s.handed s.ended s.before
    (kept_of_timers at first (kept_of_lawful first h)) (booked_timers at first (booked_of_lawful first h)) s.serves

-- what a command leaves, whether or not memory was lacking
pub leaves_acted : (memory : Memory) (m : Machine) (seat : ℕ) (what : Step) → Keeps m → Leaves m (acted memory m seat what)
leaves_acted granted m seat what h = leaves_effect m seat what h
leaves_acted growth_refused m seat what h = record { keeps = h; waiting = omega arith }
leaves_acted share_refused m seat what h = record { keeps = h; waiting = omega arith }

-- A step leads from a lawful model to a lawful one.
pub step_is_lawful : (first last : Machine) (at seat : ℕ) (what : Step) (outcome : Outcome) (given : List GivenAnswer) → IsLawful first
    → IsStep first at seat what outcome given last → IsLawful last
step_is_lawful first last at seat what outcome given h s =
    let before = lawful_before first last at seat what outcome given h s in
    let act = leaves_acted s.memory s.before seat what (kept_of_lawful s.before before) in
    let books = booked_acted s.memory s.before seat what (booked_of_lawful s.before before) in
    grind (arith, lawful_when_served s.after s.handed_then s.ended_then last, booked_forgetting)

numbered : (low n : ℕ) → map (λ s. s.number) (map empty_seat (numbers low n)) ≡ numbers low n
numbered low zero = refl
numbered low (suc n) = ap (λ ns. low ∷ ns) (numbered (suc low) n)

-- A new model is lawful.
pub new_is_lawful : (settings : Settings) → IsLawful (new_machine settings)
new_is_lawful settings =
    search (rules, numbered, list_all_from, all_of_map, all_always, first_of_none_passes, list_any_not)

-- as many answers as the command gives
pub length_addressed : (seat : ℕ) (o : Option Answer) → length (addressed seat o) ≡ answer_count o
length_addressed seat o = grind (arith, common_steps, cases_Bool)

-- as many seats as the model was made with
pub length_numbers : (low n : ℕ) → length (numbers low n) ≡ n
length_numbers low zero = refl
length_numbers low (suc n) = ap suc (length_numbers (suc low) n)

pub seats_many : (m : Machine) → Keeps m → length m.seats ≡ m.settings.seats
seats_many m h = sym (length-map m.seats (λ s. s.number)) ∙ ap length h.seated ∙ length_numbers 0 m.settings.seats

-- A step gives at most one more answer than there are seats.
pub few_answers : (first last : Machine) (at seat : ℕ) (what : Step) (outcome : Outcome) (given : List GivenAnswer) → IsLawful first
    → IsStep first at seat what outcome given last → length given ≤ first.settings.seats + 1
few_answers first last at seat what outcome given h s =
    let k = kept_of_lawful first h in
    let begin = forgetting (after_timers (at_moment at first)) in
    let before = served begin s.handed s.ended s.before (kept_of_timers at first k) s.serves in
    let act = leaves_acted s.memory s.before seat what before.keeps in
    let then = served s.after s.handed_then s.ended_then last (subst Keeps (sym s.acts) act.keeps) s.serves_then in
    grind (arith, common_steps, seats_many, count_by-le-length, length_addressed)
