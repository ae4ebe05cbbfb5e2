-- What the threads of a run did, combined along the core's history.
use Rattle.std.proofs.Common.{◌≡◌, ℕ, suc, ◌+◌, ◌<◌, Bool, true, List, [], ◌∷◌, ◌++◌, Option, map, filter, length}
use Rattle.std.proofs.Common.{refl, ◌∙◌, arith, append-nil, slice_index_or, not, nat_le}
use Rattle.std.specs.Prelude.{◌==◌}
use Rattle.std.specs.List.{list_all}
use Rattle.std.proofs.Math.Seq.{get_or-append_seam}
use Rattle.std.proofs.lemmas.List.{get_or_append_left, get_or_default, length-append, length-map}
use Rattle.std.proofs.lemmas.Slice.Zip.{AllZip-long}
use Rattle.std.proofs.lemmas.{Bool.{cases_Bool, eqb-true, eqb-false, le-leb}, Grind.common_steps}
use Rattle.bq_job.specs.declared.settings.Settings.{Settings}
use Rattle.bq_job.specs.declared.step.Step.{Step}
use Rattle.bq_job.specs.promise.ControlDid.{IsControlDone}
use Rattle.bq_job.specs.machine.Dispatch.{GivenAnswer}
use Rattle.bq_job.specs.promise.Headline.{IsHistoryOf}
use Rattle.bq_job.specs.promise.History.{LineOver, is_tick, steps_at, without_ticks}
use Rattle.bq_job.specs.machine.Machine.{Machine}
use Rattle.bq_job.specs.promise.Runs.{Entry, answers_to}
use Rattle.bq_job.specs.beside.SeatDid.{IsSeatDone}
use Rattle.bq_job.specs.beside.Ties.{AreTied}
use Rattle.bq_link.specs.EndStates.{CoreState, SeatState}
use Rattle.bq_link.specs.Submissions.{AreBelow, steps_of}
use Rattle.bq_line.specs.Tending.{DoorSeen, IsDoorServed}
use Rattle.bq_line.specs.declared.control_line.ControlLine.{ControlLine}
use Rattle.bq_job.proofs.JoinLemmas.{doors_owed}
use Rattle.bq_thread_work.specs.CoreWork.{IsCoreDone}
use Rattle.bq_link.specs.Ticks.{IsTickless}
use Rattle.bq_run.specs.Linked.{AreSettled, AreStill, IsCoreStill, IsEndOf, IsLinked}
use Rattle.bq_run.specs.Threads.{AreServed, IsControlOver, IsCoreOver}
use Rattle.bq_run.proofs.GoneLemmas.{EndsByGone, control_ends_by_gone, none_waits, seat_ends_by_gone}
use Rattle.bq_run.proofs.ThreadLemmas.{zipped_at}

-- the seat and the step of each entry
abbrev pairs : List Entry → List (ℕ × Step)
pairs entries = map (λ (e : Entry). (e.seat, e.what)) entries

-- the steps at a seat can be picked after the pairs are made
of_pairs : (seat : ℕ) (entries : List Entry)
    → map (λ (e : Entry). e.what) (filter (λ (e : Entry). e.seat == seat) entries) ≡ steps_of seat (pairs entries)
of_pairs seat [] = refl
of_pairs seat (e ∷ entries) = grind (arith, common_steps, cases_Bool, of_pairs seat entries)

tickless_first : (xs ys : List (ℕ × Step)) → IsTickless (xs ++ ys) → IsTickless xs
tickless_first [] ys h = tt
tickless_first (x ∷ xs) ys h = (h.0, tickless_first xs ys h.1)

-- a list without ticks stays the same when ticks are removed
tickless_whole : (xs : List (ℕ × Step)) → IsTickless xs → filter (λ t. not (is_tick t.1)) xs ≡ xs
tickless_whole [] h = refl
tickless_whole (x ∷ xs) h = grind (arith, common_steps, tickless_whole xs)

-- No entry belongs to a seat above this one.
seats_below : (seats : ℕ) (entries : List Entry) → AreBelow (seats + 1) (pairs entries)
    → list_all (λ (e : Entry). nat_le e.seat seats) entries ≡ true
seats_below seats [] h = refl
seats_below seats (e ∷ entries) h = grind (arith, le-leb, seats_below seats entries h.1)

-- a list with an element at this place has one
some_of : {X : Type 0} (xs : List X) (place : ℕ) → place < length xs → X
some_of [] place h = absurd (omega (arith, h))
some_of (x ∷ xs) place h = x

-- All threads have ended: that of each seat with its door, that of the core, and the control line.
-- The ends were compared with the core's.
pub record AreAllDone {D : Type 0} (at : D → DoorSeen) (settings : Settings) (readings : List (Option ℕ)) (text : List ℕ) (failed : Bool)
    (core : CoreState) (last : Machine) (to : ℕ) (ends : List SeatState) (doors : List D) : Type 0 where
  pub many : length ends ≡ settings.seats + 1
  pub doored : length doors ≡ settings.seats
  pub core_done : IsCoreDone settings readings core last 0 to
  pub settled : AreSettled core ends
  pub served : (place : ℕ) (d : D) (e : SeatState) → place < length doors
      → IsDoorServed settings.max_job_size (at (slice_index_or doors place d)) (slice_index_or ends place e).submitted
      (slice_index_or ends place e).taken
  pub control_done : (e : SeatState) → IsControlDone text failed (slice_index_or ends settings.seats e).submitted

module _ {D : Type 0} (at : D → DoorSeen) (settings : Settings) (readings : List (Option ℕ)) (text : List ℕ) (failed : Bool)
    (core : CoreState) (last : Machine) (to : ℕ) (ends : List SeatState) (doors : List D)
    (a : AreAllDone at settings readings text failed core last to ends doors) where
  abbrev history : List Entry
  history = a.core_done.history

  abbrev given : List GivenAnswer
  given = a.core_done.given

  some : 0 < length ends
  some = let m = a.many in omega arith

  pub any_end : SeatState
  any_end = some_of ends 0 some

  abbrev end_at : ℕ → SeatState
  end_at place = slice_index_or ends place any_end

  -- The core received no tick.
  taken_is : pairs (without_ticks history) ≡ core.taken
  taken_is =
      let s = a.settled 0 any_end some in
      grind (arith, a.core_done.taken_is, tickless_whole, tickless_first core.taken s.waiting)

  door_ends_by_gone : (place : ℕ) → place < length doors → EndsByGone (end_at place).submitted
  door_ends_by_gone place less =
      let s = a.served place (some_of doors place less) any_end less in
      seat_ends_by_gone settings.max_job_size _ (end_at place).submitted (end_at place).taken s.done

  ends_by_gone : (place : ℕ) → place < length ends → EndsByGone (end_at place).submitted
  ends_by_gone place below = grind (arith, cases_Bool, eqb-true, control_ends_by_gone, eqb-false, door_ends_by_gone)

  submitted_is : (place : ℕ) → place < length ends → steps_at place history ≡ (end_at place).submitted
  submitted_is place below =
      let s = a.settled place any_end below in
      let within : place < settings.seats + 1 = let m = a.many in omega (arith, below) in
      let none : steps_of place s.waiting ≡ [] =
      none_waits _ _ (steps_of place s.waiting) (ends_by_gone place below) (a.core_done.all_gone place within) s.submitted_is in
      grind (arith, of_pairs place (without_ticks history), taken_is, append-nil)

  end_of : (place : ℕ) (e : SeatState) → place < length ends → IsEndOf history given core place (slice_index_or ends place e)
  end_of place e below = grind (arith, submitted_is, get_or_default)

  pub linked : IsLinked settings.seats history given core ends
  linked = record { many = a.many; taken_is = taken_is; each = end_of }

  -- a door whose seat has ended, and its answers
  record IsDoorTied (place : ℕ) (door : DoorSeen) : Type 0 where
    done : IsSeatDone settings.max_job_size door.lines_over (steps_at place history) (end_at place).taken
    answers_are : answers_to place given ≡ (end_at place).taken ++ (end_at place).waiting

  door_tied : (place : ℕ) → place < length doors → (d : D) → IsDoorTied place (at (slice_index_or doors place d))
  door_tied place below d =
      let here : place < length ends = let m = a.many in let n = a.doored in omega (arith, below) in
      let s = a.served place d any_end below in
      let of = end_of place any_end here in
      grind arith

  abbrev lines_of : D → List LineOver
  lines_of d = (at d).lines_over

  -- the doors from this place on
  doors_tied : (from : ℕ) (rest : List D)
      → ((j t : ℕ) → t ≡ from + j → j < length rest → (d : D) → IsDoorTied t (at (slice_index_or rest j d)))
      → AreTied settings.max_job_size from (map lines_of rest) (λ place. steps_at place history) (λ place. (end_at place).taken)
      (λ place. (end_at place).waiting) history given
  doors_tied from [] h = tt
  doors_tied from (d ∷ rest) h =
      let here = h 0 from (omega arith) (omega arith) d in
      (refl, here.answers_are, here.done, doors_tied (suc from) rest (λ j t is below. h (suc j) t (omega arith) (omega arith)))

  pub all_tied : AreTied settings.max_job_size 0 (map lines_of doors) (λ place. steps_at place history) (λ place. (end_at place).taken)
      (λ place. (end_at place).waiting) history given
  all_tied = doors_tied 0 doors (λ j t is below d. rw (let e : t ≡ j = omega (arith, is) in e) (door_tied j below d))

  pub control_tied : IsControlDone text failed (steps_at settings.seats history)
  control_tied =
      let here : settings.seats < length ends = let m = a.many in omega arith in
      grind (arith, submitted_is settings.seats here, a.control_done any_end)

  pub nobody_else : list_all (λ (e : Entry). nat_le e.seat settings.seats) (without_ticks history) ≡ true
  nobody_else = grind (arith, seats_below, taken_is)

  pub many_lines : length (map lines_of doors) ≡ settings.seats
  many_lines = length-map doors lines_of ∙ a.doored

  -- One history of all threads.
  abbrev pub run_joined : IsHistoryOf settings (map lines_of doors) text failed readings last
  run_joined = record {
    history = history;
    given = given;
    run = a.core_done.run;
    many = many_lines;
    of_doors = doors_owed settings settings.max_job_size 0 (map lines_of doors) _ _ _ history given last (omega (arith, many_lines))
        a.core_done.run.runs all_tied;
    of_control = control_tied;
    of_nobody_else = nobody_else;
  }

-- The core's end has taken nothing and sent nothing since.
pub core_done_still : (settings : Settings) (readings : List (Option ℕ)) (first last : CoreState) (machine : Machine) (to : ℕ)
    → IsCoreStill first last → IsCoreDone settings readings first machine 0 to
    → IsCoreDone settings readings last machine 0 to
core_done_still settings readings first last machine to s c = record {
  history = c.history;
  given = c.given;
  run = c.run;
  taken_is = rw s.taken c.taken_is;
  numbers = rw s.taken c.numbers;
  sent_is = λ seat below. rw s.sent (c.sent_is seat below);
  all_gone = λ seat below. rw s.taken (c.all_gone seat below);
  compared = c.compared;
}

-- Everything that was done, from what the threads returned.
pub all_done : {D C I : Type 0} (at : D → DoorSeen) (gives : C → List (Option ℕ) → C → Type 0) (left : I → Option (List ℕ))
    (may_fail : I → Bool) (settings : Settings) (doors : List D)
    (core core_back core_last : CoreState) (firsts lasts ends : List SeatState) (first last : SeatState) (clock after : C) (control : I)
    (read : ControlLine I) (machine : Machine) (to : ℕ)
    → length doors ≡ settings.seats → AreServed at settings.max_job_size firsts lasts doors
    → (o : IsCoreOver gives settings core clock core_back machine to after) → (k : IsControlOver left may_fail first control last read)
    → IsCoreStill core_back core_last → AreStill (lasts ++ last ∷ []) ends → AreSettled core_last ends
    → AreAllDone at settings o.readings read.read read.failed core_last machine to ends doors
all_done at gives left may_fail settings doors core core_back core_last firsts lasts ends first last clock after control read machine to
    doored served o k still kept settled =
    let many : length lasts ≡ settings.seats = AllZip-long _ doors lasts served.1 ∙ doored in
    let all : length (lasts ++ last ∷ []) ≡ settings.seats + 1 = omega (arith, many, length-append lasts (last ∷ [])) in
    record {
      many = kept.many ∙ all;
      doored = doored;
      core_done = core_done_still settings o.readings core_back core_last machine to still o.done;
      settled = settled;
      served = λ place d e below.
          let here = get_or_append_left lasts (last ∷ []) e place in
          grind (arith, kept.each place e, zipped_at _ doors lasts served.1 place d e below);
      control_done = λ e. grind (arith, kept.each settings.seats e, get_or-append_seam lasts last [] e, k.done);
    }

-- There is still a door for each seat.
pub still_doored : {D : Type 0} (at : D → DoorSeen) (size seats : ℕ) (all firsts lasts : List SeatState)
    (doors : List D) (first : SeatState)
    → firsts ++ first ∷ [] ≡ all → length all ≡ seats + 1 → AreServed at size firsts lasts doors → length doors ≡ seats
still_doored at size seats all firsts lasts doors first whole many s =
    grind (arith, length-append firsts (first ∷ []), AllZip-long _ firsts lasts s.0, AllZip-long _ doors lasts s.1)
