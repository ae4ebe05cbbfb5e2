-- A run, which is over or not: what was served so far, in the terms of the promise.
use Rattle.std.proofs.lemmas.Grind.{common_steps}
use Rattle.std.proofs.Common.{◌≡◌, ℕ, suc, ◌+◌, ◌<◌, ◌≤◌, Bool, true, false, List, [], ◌∷◌, ◌++◌, Option}
use Rattle.std.proofs.Common.{map, length, replicate, refl, sym, ap, ◌∙◌, arith, inl, inr, append-nil}
use Rattle.std.proofs.Common.{append_assoc, nat_le, slice_index_or}
use Rattle.std.proofs.lemmas.List.{length-map, replicate-append-replicate}
use Rattle.std.specs.List.{All, list_all}
use Rattle.std.proofs.lemmas.Bool.{cases_Bool, leb-false}
use Rattle.std.specs.Io.KnownBytes.{Consumes}
use Rattle.bq_job.specs.beside.Closings.{closes}
use Rattle.bq_job.specs.declared.answer.Answer.{Answer}
use Rattle.bq_job.specs.declared.step.Step.{Step}
use Rattle.bq_job.specs.declared.step.Step.TheVariants.{Drain, Gone}
use Rattle.bq_job.specs.beside.Ties.{AreTied}
use Rattle.bq_job.specs.machine.Machine.{new_machine}
use Rattle.bq_job.specs.promise.CoreDid.{IsRun}
use Rattle.bq_job.specs.promise.ControlDid.{drains, drains_from, one_if}
use Rattle.bq_job.specs.promise.Headline.{AreSeatsUpTo, IsHistoryOf}
use Rattle.bq_job.specs.promise.History.{is_tick, steps_at, without_ticks}
use Rattle.bq_job.specs.promise.LineOwed.{AreLinesOwed}
use Rattle.bq_job.specs.promise.LineSteps.{LineSeen}
use Rattle.bq_job.specs.promise.Runs.{Entry, answers_to}
use Rattle.bq_job.specs.promise.SoFar.{AreDoorsOwedSoFar, IsControlSoFar, IsDoorOwedSoFar, IsOutOwed}
use Rattle.bq_host.specs.Compared.{AreCompared}
use Rattle.bq_host.specs.Hubs.{state_of}
use Rattle.bq_host.specs.MailStates.{waiting}
use Rattle.bq_host.proofs.SettingsLemmas.{StepsKeepSettings, run_keeps_settings}
use Rattle.bq_host.proofs.HasComparedLemmas.{compared_all}
use Rattle.bq_host.proofs.TraceLemmas.{core_none, new_mails_are, none_waits, order_new}
use Rattle.bq_job.proofs.JoinLemmas.{doors_owed, seat_owed_so_far}
use Rattle.bq_line.proofs.CountedLemmas.{got_few}
use Rattle.bq_line.proofs.LineSoFarLemmas.{line_so_far}
use Rattle.bq_line.proofs.TendingLemmas.{tended_new}
use Rattle.bq_line.specs.ControlRead.{IsReadToEnd}
use Rattle.bq_line.specs.Attending.{IsAt}
use Rattle.bq_line.specs.Tending.{DoorSeen, IsDoorServed, IsTended, door_seen, ended_lines}
use Rattle.bq_line.specs.declared.attendant.Attendant.{Attendant}
use Rattle.bq_line.specs.declared.attendant.SeatPhase.{SeatPhase}
use Rattle.bq_line.specs.declared.attendant.SeatPhase.TheVariants as phases
use Rattle.bq_seat.specs.declared.machine.SeatMachine.{SeatMachine}
use Rattle.bq_line.specs.ControlTold.{HasTold, IsAtStage}
use Rattle.bq_event_loop.specs.Meanings.{Clock, Control, Core, Door, Line}
use Rattle.bq_event_loop.specs.Rows.{AreDone}
use Rattle.bq_event_loop.specs.NewLoops.{IsNewRun}
use Rattle.bq_event_loop.specs.Serving.{AreReady, AreServed, IsServing}
use Rattle.bq_event_loop.specs.declared.turns.Turns.{Ghosts as Turns}
use Rattle.bq_host.specs.declared.hub.Hub.{Hub}
use Rattle.bq_event_loop.specs.declared.row.Row.{Row}
use Rattle.bq_event_loop.specs.SoFar.{Beginning, IsLoopSoFar, doors_so_far, line_out}
use Rattle.bq_line.specs.declared.control_steps.ControlSteps.{ControlSteps}
use Rattle.bq_line.specs.declared.control_steps.Stage.{Stage}
use Rattle.bq_line.specs.declared.control_steps.Stage.TheVariants as stages
use Rattle.bq_line.proofs.ToldLemmas.{IsToldSo, told_all}
use Rattle.bq_event_loop.proofs.RowLemmas.{same_selves, some_one, tended_at_first}

-- ---- the control line

begun_by : (text : List ℕ) (failed : Bool) (count more : ℕ) (told : List Step) → told ≡ replicate count Drain
    → drains text failed ≡ count + more → IsControlSoFar text failed told
begun_by text failed count more told is total =
    grind (arith, append_assoc (replicate count Drain) (replicate more Drain) (Gone ∷ []), replicate-append-replicate count more Drain)

read_of : (before after : Option (List ℕ)) (text : List ℕ) (failed : Bool)
    → IsReadToEnd before after text failed → Consumes before after text
read_of before after text failed h4 = grind arith

-- What was read and submitted of a control line so far.
record IsControlBegun {I : Type 0} (i : Control I) (first : Option (List ℕ)) (may : Bool) (input : I) (told : List Step) : Type 0 where
  read : Consumes first (i.remaining input) (i.seen input).text
  fault : (i.seen input).failed ≡ true → may ≡ true
  begun : IsControlSoFar (i.seen input).text (i.seen input).failed told

module _ {I : Type 0} (i : Control I) where
  begun_at : (stage : Stage) (input : I) (kept : List ℕ) (owed count : ℕ) (first : Option (List ℕ)) (may : Bool) (told : List Step)
      → IsAtStage stage first (i.remaining input) may (i.seen input) kept owed count told → IsControlBegun i first may input told
  begun_at stages.Reads input kept owed count first may told at =
      let r = at.1 in
      record {
        read = r.read;
        fault = λ f. absurd (let well = r.well in cc);
        begun = begun_by (i.seen input).text (i.seen input).failed count (owed + drains_from kept [] (i.seen input).failed) told at.0
            (ap (λ (xs : List ℕ). drains xs (i.seen input).failed) (sym (append-nil (i.seen input).text))
            ∙ r.counted [] (i.seen input).failed
            ∙ plus count owed (drains_from kept [] (i.seen input).failed));
      }
    where
      plus : (a b c : ℕ) → (a + b) + c ≡ a + (b + c)
      plus a b c = omega arith
  begun_at stages.Ended input kept owed count first may told at = search (read_of, begun_by)
  begun_at stages.Over input kept owed count first may told at = grind (arith, common_steps)

  control_begun : (first : Option (List ℕ)) (may : Bool) (c : ControlSteps I) (told : List Step)
      → HasTold i first may c told
      → IsControlBegun i first may c.input told
  control_begun first may c told h = begun_at c.stage c.input c.line (one_if c.owes_drain) h.count first may told h.at_stage

-- ---- the seats

-- no step belongs to a seat above this one
up_to : (seat : ℕ) (history : List Entry) → ((t : ℕ) → seat < t → steps_at t history ≡ [])
    → list_all (λ (e : Entry). nat_le e.seat seat) (without_ticks history) ≡ true
up_to seat [] h = refl
up_to seat (e ∷ history) h =
    elim (cases_Bool (is_tick e.what)) [
      | inl x ↦ rw x (up_to seat history (λ t above. tick_none t x (h t above)))
      | inr x ↦ elim (cases_Bool (nat_le e.seat seat)) [
        | inl y ↦ rw (x, y) (up_to seat history (λ t above. own_none t x (h t above)))
        | inr y ↦ absurd (some_there x (h e.seat (let lt = leb-false e.seat seat y in omega arith)))
      ]
    ]
  where
    tick_none : (t : ℕ) → is_tick e.what ≡ true → steps_at t (e ∷ history) ≡ [] → steps_at t history ≡ []
    tick_none t x g = rw x at g

    own_none : (t : ℕ) → is_tick e.what ≡ false → steps_at t (e ∷ history) ≡ [] → steps_at t history ≡ []
    own_none t x g = grind arith

    some_there : is_tick e.what ≡ false → steps_at e.seat (e ∷ history) ≡ [] → ⊥
    some_there x g = grind arith

module _ {L : Type 0} (seen : L → LineSeen) where
  -- the open connection, or what a seat without one submitted
  out_at : (size : ℕ) (machine : SeatMachine) (place : SeatPhase L) (submitted : List Step) (taken more : List Answer)
      → IsAt seen size machine place submitted taken → IsOutOwed size (line_out seen place) submitted (taken ++ more)
  out_at size machine phases.Between submitted taken more at = inl at.0
  out_at size machine (phases.On line action sent) submitted taken more at =
      grind (arith, line_so_far size machine at.0 action sent submitted taken more at.2)
  out_at size machine phases.Leaving submitted taken more at = inl at.0
  out_at size machine phases.Done submitted taken more at = inr at.0

  out_so_far : (size : ℕ) (a : Attendant L) (door : DoorSeen) (submitted : List Step) (taken more : List Answer)
      → (t : IsTended seen size a door submitted taken)
      → AreLinesOwed size door.lines_over t.before t.got
      → IsDoorOwedSoFar size (record { over = door.lines_over; out = line_out seen a.phase; is_out = door.is_out })
      submitted (taken ++ more)
  out_so_far size a door submitted taken more t owed = grind (arith, common_steps, out_at)

module _ {L D : Type 0} (l : Line L) (d : Door D L) where
  many_doors : (seats : List (Attendant L)) (doors : List D) → length doors ≡ length seats
      → length (doors_so_far l.seen d.lines_over d.is_out seats doors) ≡ length seats
  many_doors [] doors e = grind arith
  many_doors (a ∷ seats) [] e = e
  many_doors (a ∷ seats) (x ∷ doors) e = grind (arith, many_doors seats doors)

-- ---- a run

module _ {L D C I K T : Type 0} {k : Core K} {l : Line L} {d : Door D L} {i : Control I} {t : Turns T}
    {begun : Beginning D C} {turns : T} {core : Hub C K} {row : Row L D} {control : ControlSteps I}
    (new : IsNewRun k d i t begun turns core row control) where
  -- The core and the seats of a run that begins are ready.
  pub ready_first : AreReady k l d core row
  ready_first = (
    order_new begun.settings (state_of k core) new.made,
    tended_at_first l d (new.doored ∙ sym new.many) new.new_seats new.new_doors,
    new_mails_are begun.settings (state_of k core) new.made ∙ sym new.many,
    omega (arith, new.many, new.fits),
  )

  -- Nothing was served yet.
  pub serving_first : {c : Clock C} → ((clock : C) → c.given clock [] clock) → ((door : D) → d.same door door)
      → IsServing k c l d i [] begun core row control
  serving_first {c} none self = record {
    told = [];
    submits = new.untold;
    served = record {
      first = state_of k core;
      readings = [];
      history = [];
      more = [];
      begins = refl;
      took = λ t. [];
      is_new = new.made;
      gave = rw new.clock_is (none begun.clock);
      trace = core_none (state_of k core);
      many = new.many;
      doored = new.doored;
      each = λ t below a x. tended_new l.seen begun.settings.max_job_size (slice_index_or row.seats.items t a)
          (door_seen d (slice_index_or row.doors.items t x)) (new.new_seats t a below)
          (new.new_doors t x (omega (arith, new.many, new.doored, below)));
      few = λ t below a x. omega arith;
      control_is = refl;
      nobody_else = λ t above. refl;
      same_doors = rw new.doors_are (same_selves d.same self begun.doors);
    };
  }

module _ {L D C K : Type 0} {k : Core K} {c : Clock C} {l : Line L} {d : Door D L} {begun : Beginning D C}
    {earlier : List Entry} {told : List Step} {core : Hub C K} {row : Row L D} (s : AreServed k c l d earlier begun told core row) where
  -- One history of all steps, each with a reading of its own.
  ran : IsRun begun.settings s.readings s.history s.trace.given (k.machine core.timed.core)
  ran = grind arith

  -- Along it, the core stayed within its bounds.
  within_bounds : AreCompared (new_machine begun.settings) s.history s.trace.given (k.machine core.timed.core) 0
      (k.comparisons core.timed.core)
  within_bounds = grind (arith, compared_all s.first (state_of k core))

  -- Its steps are those of the seats, and of the control line after them.
  control_steps : steps_at begun.settings.seats s.history ≡ told
  control_steps = grind arith

  no_others : AreSeatsUpTo begun.settings.seats s.history
  no_others = grind (arith, up_to)

  -- The core's settings are those that it began with.
  pub serving_settings : StepsKeepSettings → (k.machine core.timed.core).settings ≡ begun.settings
  serving_settings law = run_keeps_settings law begun.settings s.readings s.history s.trace.given (k.machine core.timed.core) ran

  -- a seat with its door, the answers that it was given, and how many of them are `Closed`
  record IsSeatSoFar (t : ℕ) (a : Attendant L) (door : DoorSeen) : Type 0 where
    within : t < begun.settings.seats
    tended : IsTended l.seen begun.settings.max_job_size a door (steps_at t s.history) (s.took t)
    answers_are : answers_to t s.trace.given ≡ s.took t ++ waiting t (state_of k core)
    few : closes (s.took t) ≤ ended_lines a door

  seat_served : (t : ℕ) → t < length row.seats.items → (a : Attendant L) (x : D)
      → IsSeatSoFar t (slice_index_or row.seats.items t a) (door_seen d (slice_index_or row.doors.items t x))
  seat_served t below a x = grind (arith, none_waits, new_mails_are begun.settings s.first s.is_new)

  -- The connections of a seat that have ended are owed what their clients received, and an open one is owed a beginning of it.
  seat_so_far : (t : ℕ) (a : Attendant L) (x : D) → IsSeatSoFar t a (door_seen d x)
      → IsDoorOwedSoFar begun.settings.max_job_size
      (record { over = d.lines_over x; out = line_out l.seen a.phase; is_out = d.is_out x }) (steps_at t s.history)
      (answers_to t s.trace.given)
  seat_so_far t a x g =
      let did = g.tended in
      let owed = seat_owed_so_far begun.settings begun.settings.max_job_size t (d.lines_over x) did.before did.now did.got
      (did.getting ++ waiting t (state_of k core)) s.history s.trace.given (k.machine core.timed.core) g.within ran.runs
      did.submitted_is (grind (arith, append_assoc)) (got_few l.seen _ _ _ _ _ g.tended g.few) did.of_lines in
      search (out_so_far, g.answers_are, g.tended)

  -- the doors from this seat on
  doors_begun : (n : ℕ) (seats : List (Attendant L)) (doors : List D)
      → ((j t : ℕ) → t ≡ n + j → j < length seats → (a : Attendant L) (x : D)
      → IsSeatSoFar t (slice_index_or seats j a) (door_seen d (slice_index_or doors j x)))
      → AreDoorsOwedSoFar begun.settings.max_job_size n
      (doors_so_far l.seen d.lines_over d.is_out seats doors) s.history s.trace.given
  doors_begun n [] doors h = grind arith
  doors_begun n (a ∷ seats) [] h = tt
  doors_begun n (a ∷ seats) (x ∷ doors) h = (
    seat_so_far n a x (h 0 n (omega arith) (omega arith) a x),
    doors_begun (suc n) seats doors (λ j t is below. h (suc j) t (omega arith) (omega arith)),
  )

  -- The promise so far.
  pub serving_so_far : {I : Type 0} {i : Control I} {control : ControlSteps I} → HasTold i begun.left begun.may_fail control told
      → IsLoopSoFar c.given l.seen d.lines_over d.is_out d.same k.machine k.comparisons begun row.seats.items
      row.doors.items core.timed.time.clock (i.seen control.input) (i.remaining control.input) core.timed.core
  serving_so_far {I} {i} {control} submits =
      let b = control_begun i begun.left begun.may_fail control told submits in
      record {
        readings = s.readings;
        gave = s.gave;
        read = b.read;
        fault = b.fault;
        history = record {
          history = s.history;
          given = s.trace.given;
          run = ran;
          many = many_doors l d row.seats.items row.doors.items (s.doored ∙ sym s.many) ∙ s.many;
          of_doors = doors_begun 0 row.seats.items row.doors.items (λ j t is below a x.
              rw (let e : t ≡ j = omega (arith, is) in e) (seat_served j below a x));
          of_control = grind arith;
          of_nobody_else = no_others;
        };
        compared = within_bounds;
        same_doors = s.same_doors;
      }

  module _ (all_done : AreDone row.seats.items) where
    -- a door whose seat is done, and its answers
    record IsDoorDone (t : ℕ) (door : DoorSeen) : Type 0 where
      served : IsDoorServed begun.settings.max_job_size door (steps_at t s.history) (s.took t)
      answers_are : answers_to t s.trace.given ≡ s.took t ++ waiting t (state_of k core)

    door_done : (t : ℕ) → t < length row.doors.items → (x : D) → IsDoorDone t (door_seen d (slice_index_or row.doors.items t x))
    door_done t below x =
        let here : t < length row.seats.items = omega (arith, s.many, s.doored, below) in
        let a = some_one row.seats.items t here in
        let g = seat_served t here a x in
        search (arith, common_steps)

    -- the doors from this seat on
    doors_tied : (n : ℕ) (rest : List D)
        → ((j t : ℕ) → t ≡ n + j → j < length rest → (x : D) → IsDoorDone t (door_seen d (slice_index_or rest j x)))
        → AreTied begun.settings.max_job_size n (map d.lines_over rest) (λ t. steps_at t s.history) s.took
        (λ t. waiting t (state_of k core)) s.history s.trace.given
    doors_tied n [] h = tt
    doors_tied n (x ∷ rest) h =
        let here = h 0 n (omega arith) (omega arith) x in
        (refl, here.answers_are, here.served.done, doors_tied (suc n) rest (λ j t is below. h (suc j) t (omega arith) (omega arith)))

    -- The promise of a run that is over.
    pub record IsLoopOver {I : Type 0} (i : Control I) (control : ControlSteps I) : Type 0 where
      pub told_is : IsToldSo i begun.left begun.may_fail control told
      pub history : IsHistoryOf begun.settings (map d.lines_over row.doors.items) (i.seen control.input).text
          (i.seen control.input).failed s.readings (k.machine core.timed.core)
      pub compared : AreCompared (new_machine begun.settings) history.history history.given (k.machine core.timed.core) 0
          (k.comparisons core.timed.core)
      pub at_end : All (λ (x : D). (d.is_out x ≡ false) × (d.is_at_end x ≡ true)) row.doors.items

    pub serving_over : {I : Type 0} {i : Control I} {control : ControlSteps I} → HasTold i begun.left begun.may_fail control told
        → control.stage ≡ stages.Over → IsLoopOver i control
    serving_over {I} {i} {control} submits over =
        let t = told_all over submits in
        let many = length-map row.doors.items d.lines_over ∙ s.doored in
        record {
          told_is = t;
          history = record {
            history = s.history;
            given = s.trace.given;
            run = ran;
            many = many;
            of_doors = doors_owed begun.settings begun.settings.max_job_size 0 (map d.lines_over row.doors.items)
                (λ n. steps_at n s.history) s.took (λ n. waiting n (state_of k core)) s.history s.trace.given
                (k.machine core.timed.core) (omega (arith, many)) ran.runs
                (doors_tied 0 row.doors.items (λ j t is below x. rw (let e : t ≡ j = omega (arith, is) in e) (door_done j below x)));
            of_control = control_steps ∙ t.done;
            of_nobody_else = no_others;
          };
          compared = within_bounds;
          at_end = λ n x below. let served = (door_done n below x).served in (served.inside, served.at_end);
        }
