-- Seats are served in turn: one acts, and the others stay as they were.
use Rattle.std.proofs.Common.{◌≡◌, ℕ, ◌<◌, ◌≤◌, List, [], ◌++◌, Option, length, refl, sym}
use Rattle.std.proofs.Common.{ap, ◌∙◌, append-nil, append_assoc, arith, slice_set, slice_index_or}
use Rattle.bq_job.specs.beside.Closings.{closes, closings}
use Rattle.bq_job.specs.declared.answer.Answer.{Answer}
use Rattle.bq_job.specs.declared.step.Step.{Step}
use Rattle.bq_job.specs.promise.History.{steps_at}
use Rattle.bq_job.specs.promise.Runs.{Entry}
use Rattle.bq_job.proofs.ClosedLemmas.{run_closes}
use Rattle.bq_job.proofs.CutLemmas.{closes_append}
use Rattle.bq_host.specs.Hubs.{HubTrace, state_of}
use Rattle.bq_host.specs.MailStates.{IsInOrder, MailState, waiting}
use Rattle.bq_host.specs.Traces.{CoreTrace, SeatTrace}
use Rattle.bq_host.specs.declared.hub.Hub.{Hub}
use Rattle.bq_host.proofs.{TimedRunLemmas.{gave_none}, TraceLemmas.{core_none, core_on, new_mails_are, none_waits, steps_append}}
use Rattle.bq_host.proofs.HubLemmas.{called, trace_none, trace_then}
use Rattle.bq_line.specs.GivenReadings.{GaveReadings}
use Rattle.bq_line.specs.Tending.{GoesOn, IsCounted, IsTended, door_seen, ended_lines}
use Rattle.bq_line.specs.declared.attendant.Attendant.{Attendant}
use Rattle.bq_line.proofs.CountedLemmas.{counted_on}
use Rattle.bq_line.specs.ControlTold.{TellsOn}
use Rattle.bq_event_loop.specs.Meanings.{Clock, Control, Core, Door, Line}
use Rattle.bq_event_loop.specs.Known.{ChangesOnly}
use Rattle.bq_event_loop.specs.SoFar.{Beginning}
use Rattle.bq_event_loop.specs.Rows.{AllTend, AreTended, KeepsRow}
use Rattle.bq_event_loop.specs.Serving.{AreReadyFor, AreServed, ControlTrace, IsServing, LoopTrace, SeatActed, ServesOn}
use Rattle.bq_line.specs.declared.control_steps.ControlSteps.{ControlSteps}
use Rattle.bq_event_loop.specs.declared.row.Row.{Row}
use Rattle.bq_line.proofs.ToldLemmas.{tells_none, tells_then}
use Rattle.bq_host.proofs.WakeLemmas.{wakes_none, wakes_then}
use Rattle.bq_event_loop.proofs.KnownLemmas.{changed_one, changed_then}
use Rattle.bq_event_loop.proofs.RowLemmas.{rested_none, tend_set, tended_on, tends_none}

-- A seat for which no answer waited at first has taken at most one `Closed` for each close.
took_few : (first core : MailState) (readings : List (Option ℕ)) (history : List Entry) (took : ℕ → List Answer) (seat : ℕ)
    → CoreTrace first readings history took core → seat < length first.mails → waiting seat first ≡ []
    → closes (took seat) ≤ closings (steps_at seat history)
took_few first core readings history took seat w below none =
    grind (arith, closes_append (took seat) (waiting seat core), run_closes seat first.core core.core history w.given w.runs)

-- If one seat did nothing, then none did.
none_acted : (i : ℕ) (first last : MailState) (readings : List (Option ℕ)) (w : SeatTrace i first readings [] [] last) (t : ℕ)
    → (steps_at t w.history ≡ []) × (w.took t ≡ [])
none_acted i first last readings w t = grind arith

module _ {C K L D : Type 0} {k : Core K} {c : Clock C} {l : Line L} {d : Door D L} where
  -- A part of the history was added, and each seat did what the part has for it.
  served_on : {old new : Hub C K} {row later : Row L D} {earlier : List Entry} {begun : Beginning D C} {told next : List Step}
      (reads : List (Option ℕ)) (part : List Entry) (took : ℕ → List Answer)
      → GaveReadings c.given old.timed.time.clock reads new.timed.time.clock
      → CoreTrace (state_of k old) reads part took (state_of k new)
      → AllTend l d (λ t. steps_at t part) took row.seats.items row.doors.items later.seats.items later.doors.items
      → next ≡ told ++ steps_at (length row.seats.items) part → ((t : ℕ) → length row.seats.items < t → steps_at t part ≡ [])
      → AreServed k c l d earlier begun told old row → AreServed k c l d earlier begun next new later
  served_on {old} {new} {row} {later} {earlier} {begun} {told} {next} reads part took gave w all next_is nobody s =
      record {
        first = s.first;
        readings = s.readings ++ reads;
        history = s.history ++ part;
        more = s.more ++ part;
        begins = ap (λ h. h ++ part) s.begins ∙ append_assoc earlier s.more part;
        took = λ t. s.took t ++ took t;
        is_new = s.is_new;
        gave = gave begun.clock s.readings s.gave;
        trace = whole;
        many = all.many ∙ s.many;
        doored = all.doored ∙ s.doored;
        each = λ t below a x. (goes t (here t below) a x).0;
        few = λ t below. few t (here t below);
        control_is = grind (arith, steps_append begun.settings.seats s.history part);
        nobody_else = λ t above. grind (arith, steps_append t s.history part, nobody t, s.nobody_else t above, s.many);
        same_doors = all.same_doors begun.doors s.same_doors;
      }
    where
      whole : CoreTrace s.first (s.readings ++ reads) (s.history ++ part) (λ t. s.took t ++ took t) (state_of k new)
      whole = core_on s.first (state_of k old) (state_of k new) s.readings reads s.history part s.took took s.trace w

      here : (t : ℕ) → t < length later.seats.items → t < length row.seats.items
      here t below = omega (arith, all.many, below)

      goes : (t : ℕ) → t < length row.seats.items → (a : Attendant L) (x : D)
          → IsTended l.seen begun.settings.max_job_size (slice_index_or later.seats.items t a)
          (door_seen d (slice_index_or later.doors.items t x)) (steps_at t (s.history ++ part)) (s.took t ++ took t)
          × IsCounted (slice_index_or row.seats.items t a) (door_seen d (slice_index_or row.doors.items t x)) (took t)
          (slice_index_or later.seats.items t a) (door_seen d (slice_index_or later.doors.items t x))
      goes t below a x = rw (steps_append t s.history part)
          (all.each t below a x begun.settings.max_job_size (steps_at t s.history) (s.took t) (s.each t below a x))

      few : (t : ℕ) → t < length row.seats.items → (a : Attendant L) (x : D)
          → closes (s.took t ++ took t)
          ≤ ended_lines (slice_index_or later.seats.items t a) (door_seen d (slice_index_or later.doors.items t x))
      few t below a x =
          let g = goes t below a x in
          let law = took_few s.first (state_of k new) (s.readings ++ reads) (s.history ++ part) (λ n. s.took n ++ took n) t whole
          (omega (arith, new_mails_are begun.settings s.first s.is_new, s.many, below)) (none_waits begun.settings s.first t s.is_new) in
          counted_on l.seen begun.settings.max_job_size _ _ _ _ (steps_at t (s.history ++ part)) (s.took t) (took t) g.1 g.0 law
          (s.few t below a x)

  -- The seats rested.
  pub serves_rested : {core : Hub C K} {row later : Row L D}
      → AllTend l d (λ t. []) (λ t. []) row.seats.items row.doors.items later.seats.items later.doors.items
      → ServesOn k c l d core row core later
  serves_rested {core} r earlier begun told s = served_on [] [] (λ t. []) (gave_none c.given core.timed.time.clock)
      (core_none (state_of k core)) r (sym (append-nil told)) (λ t above. refl) s

  -- The core took steps, but none of a seat, and no answer was taken.
  served_by : {old new : Hub C K} {row : Row L D} {earlier : List Entry} {begun : Beginning D C} {told next : List Step} {i : ℕ}
      {submitted : List Step}
      (trace : HubTrace k c i old submitted [] new)
      → ((t : ℕ) → t < length row.seats.items → (steps_at t trace.0.2.history ≡ []) × (trace.0.2.took t ≡ []))
      → next ≡ told ++ steps_at (length row.seats.items) trace.0.2.history
      → ((t : ℕ) → length row.seats.items < t → steps_at t trace.0.2.history ≡ [])
      → AreServed k c l d earlier begun told old row → AreServed k c l d earlier begun next new row
  served_by {row} trace none next_is nobody s =
      let w = trace.0.2 in
      served_on trace.0.0 w.history w.took trace.0.1 w.trace (record {
        many = refl;
        doored = refl;
        each = λ t below a x. tends_none l _ _ _ _ (none t below).0 (none t below).1;
        same_doors = λ handed_in h. h;
      }) next_is nobody s

  -- A tick was taken, or answers moved to another place.
  pub serves_time : {old new : Hub C K} {row : Row L D} (i : ℕ) → HubTrace k c i old [] [] new → ServesOn k c l d old row new row
  serves_time {old} {new} i trace earlier begun told s =
      let none : (t : ℕ) → (steps_at t trace.0.2.history ≡ []) × (trace.0.2.took t ≡ []) =
      λ t. none_acted i (state_of k old) (state_of k new) trace.0.0 trace.0.2 t in
      served_by {old = old} {told = told} trace (λ t below. none t) (rw (none _).0 (sym (append-nil told))) (λ t above. (none t).0) s

  -- No seat did anything.
  pub acted_none : {seat : ℕ} {core : Hub C K} {row : Row L D} → IsInOrder (state_of k core) → AreTended l d row
      → SeatActed k c l d seat core row core row
  acted_none {seat} {core} {row} order tended = grind (arith, wakes_none)

  -- A seat rested.
  pub acted_rested : {seat : ℕ} {core : Hub C K} {row later : Row L D} → IsInOrder (state_of k core) → KeepsRow l d row later
      → ChangesOnly seat row.seats.items later.seats.items → SeatActed k c l d seat core row core later
  acted_rested {seat} {core} {row} {later} order keeps only =
      let on : ServesOn k c l d core row core later = serves_rested (keeps.1 row rested_none) in
      grind (arith, on, wakes_none)

  -- A seat did one thing after another.
  pub acted_then : {seat : ℕ} {old core new : Hub C K} {row mid later : Row L D} → SeatActed k c l d seat old row core mid
      → SeatActed k c l d seat core mid new later → SeatActed k c l d seat old row new later
  acted_then {seat} {old} {core} {new} {row} {mid} {later} a b = record {
    order = b.order;
    tended = b.tended;
    mailed = b.mailed ∙ a.mailed;
    serves = λ earlier begun told s. b.serves earlier begun told (a.serves earlier begun told s);
    only = changed_then a.only b.only;
    wakes = wakes_then old.mails.items core.mails.items new.mails.items old.wake_queue core.wake_queue new.wake_queue a.wakes b.wakes;
  }

  -- A seat acted, with its door, which were looked up.
  pub acted : {old new : Hub C K} {row later : Row L D} {i : ℕ} {a next : Attendant L} {x door : D} → AreReadyFor k l d i old row
      → a ≡ slice_index_or row.seats.items i a → x ≡ slice_index_or row.doors.items i x → IsInOrder (state_of k new)
      → GoesOn (HubTrace k c i) old new l.seen a (door_seen d x) next (door_seen d door)
      → ((first : D) → d.same first x → d.same first door)
      → later.seats.items ≡ slice_set row.seats.items i next → later.doors.items ≡ slice_set row.doors.items i door
      → SeatActed k c l d i old row new later
  acted {old} {new} {row} {later} {i} {a} {next} {x} {door} ready a_is x_is order goes on seats_are doors_are =
      let trace = called k c i old new goes.0 goes.1 goes.2 in
      let w = trace.0.2 in
      let all : AllTend l d (λ t. steps_at t w.history) w.took row.seats.items row.doors.items later.seats.items later.doors.items =
      rw (seats_are, doors_are) (tend_set (λ t. steps_at t w.history) w.took door ready.1 ready.0.1.doored a_is x_is
      (rw (w.submitted_is, w.taken_is) goes.3) (λ t differs. (w.others_still t differs, w.others_took t differs)) on) in
      let none : (t : ℕ) → length row.seats.items ≤ t → steps_at t w.history ≡ [] =
      λ t past. w.others_still t (λ e. omega (arith, ready.1, past, e)) in
      record {
        order = order;
        tended = tended_on ready.0.1 all;
        mailed = w.trace.many;
        serves = λ earlier begun told s. served_on {told = told} trace.0.0 w.history w.took trace.0.1 w.trace all
            (rw (none (length row.seats.items) (omega arith)) (sym (append-nil told))) (λ t above. none t (omega (arith, above))) s;
        only = rw seats_are (changed_one next);
        wakes = trace.1;
      }

-- ---- the control line

module _ {C K I : Type 0} {k : Core K} {c : Clock C} {i : Control I} where
  -- The control line was read, or left alone, and submitted nothing.
  pub control_read : {core : Hub C K} {control next : ControlSteps I} → IsInOrder (state_of k core) → TellsOn i control [] next
      → ControlTrace k c i core control core next
  control_read {core} order read = grind (arith, trace_none k c (length core.mails.items) core)

  pub control_none : {core : Hub C K} {control : ControlSteps I} → IsInOrder (state_of k core)
      → ControlTrace k c i core control core control
  control_none order = control_read order tells_none

  -- The control line submitted one thing after another.
  pub control_then : {old core new : Hub C K} {control mid next : ControlSteps I} → ControlTrace k c i old control core mid
      → ControlTrace k c i core mid new next → ControlTrace k c i old control new next
  control_then {old} {core} {new} a b = record {
    order = b.order;
    told = a.told ++ b.told;
    tells = tells_then a.tells b.tells;
    trace = trace_then k c (length old.mails.items) (length core.mails.items) old core new a.told b.told [] [] a.trace.0.2.trace.many
        a.trace b.trace;
  }

module _ {C K L D I : Type 0} {k : Core K} {c : Clock C} {l : Line L} {d : Door D L} {i : Control I} where
  -- The control line submitted steps, and the seats rested.
  pub loop_control : {old new : Hub C K} {row : Row L D} {control next : ControlSteps I} → length old.mails.items ≡ length row.seats.items
      → ControlTrace k c i old control new next → LoopTrace k c l d i old row control new row next
  loop_control {row} same t earlier begun s =
      let w = t.trace.0.2 in
      record {
        told = s.told ++ t.told;
        submits = t.tells.on begun.left begun.may_fail s.told s.submits;
        served = served_by t.trace
            (λ n below. (w.others_still n (λ e. omega (arith, same, below, e)), w.others_took n (λ e. omega (arith, same, below, e))))
            (ap (λ more. s.told ++ more) (rw same at (sym w.submitted_is)))
            (λ n above. w.others_still n (λ e. omega (arith, same, above, e))) s.served;
      }

  -- The control line did nothing.
  pub loop_serves : {old new : Hub C K} {row later : Row L D} {control : ControlSteps I} → ServesOn k c l d old row new later
      → LoopTrace k c l d i old row control new later control
  loop_serves on earlier begun s = record { told = s.told; submits = s.submits; served = on earlier begun s.told s.served }

  -- The seats rested after some of them were woken.
  pub loop_rested : {old new : Hub C K} {row later : Row L D} {control : ControlSteps I} → new ≡ record old { wake_queue = new.wake_queue }
      → AllTend l d (λ t. []) (λ t. []) row.seats.items row.doors.items later.seats.items later.doors.items
      → LoopTrace k c l d i old row control new later control
  loop_rested {old} {new} {row} {later} {control} same r earlier begun s =
      let on : IsServing k c l d i earlier begun old later control = loop_serves (serves_rested r) earlier begun s in
      grind arith
