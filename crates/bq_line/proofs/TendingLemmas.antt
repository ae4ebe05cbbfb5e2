-- A seat and its door continue with each thing that the seat does.
use Rattle.std.proofs.Common.{ℕ, ◌≡◌, ◌≤◌, true, false, List, [], ◌∷◌, ◌++◌}
use Rattle.std.proofs.Common.{refl, arith, rules, append-nil, append_assoc, length-append, inl, inr}
use Rattle.std.proofs.lemmas.Grind.{common_steps}
use Rattle.bq_job.specs.declared.answer.Answer.{Answer}
use Rattle.bq_job.specs.declared.line_end.LineEnd.{LineEnd}
use Rattle.bq_job.specs.declared.step.Step.{Step}
use Rattle.bq_job.specs.promise.History.{LineOver}
use Rattle.bq_job.specs.promise.LineSteps.{LineSeen}
use Rattle.bq_seat.specs.SeatMoves.{IsMove}
use Rattle.bq_seat.specs.declared.machine.Action.{Action}
use Rattle.bq_seat.specs.declared.machine.Action.TheVariants as actions
use Rattle.bq_seat.specs.declared.machine.Event.TheVariants as events
use Rattle.bq_seat.specs.declared.machine.SeatMachine.{SeatMachine}
use Rattle.bq_line.specs.Attending.{IsAt, IsOnLine}
use Rattle.bq_line.specs.Carried.{CarriedPart, CarriesOn, HasGone}
use Rattle.bq_line.specs.declared.attendant.Progress.{Progress}
use Rattle.bq_line.specs.declared.attendant.Progress.TheVariants as results
use Rattle.bq_line.specs.LineCalls.{new_line}
use Rattle.bq_line.specs.Links.{Calls}
use Rattle.bq_line.specs.Submitting.{IsSubmittedOn}
use Rattle.bq_line.specs.Tending.{DoorSeen, IsCounted, IsNewDoor, IsNewSeat, IsPlaced, IsTended, Tends}
use Rattle.bq_line.specs.Tending.{attendant, ended_lines, over_now}
use Rattle.bq_line.specs.declared.attendant.Attendant.{Attendant}
use Rattle.bq_line.specs.declared.attendant.SeatPhase.{SeatPhase}
use Rattle.bq_line.specs.declared.attendant.SeatPhase.TheVariants as phases
use Rattle.bq_job.proofs.JoinLemmas.{lines_more}
use Rattle.bq_line.proofs.CarriedLemmas.{none_begun}
use Rattle.bq_line.proofs.CountedLemmas.{carried_counted}
use Rattle.bq_line.proofs.SeatLemmas.{carried_on, line_served, opened_on}

-- nothing more was submitted and taken
none_taken : {L : Type 0} (seen : L → LineSeen) (size : ℕ) (old new : Attendant L) (door next : DoorSeen) (before : List Step)
    (got : List Answer) → ended_lines old door ≤ ended_lines new next → IsTended seen size new next before got
    → IsTended seen size new next (before ++ []) (got ++ []) × IsCounted old door [] new next
none_taken seen size old new door next before got grows h = grind (arith, common_steps)

-- The seat moved to another phase, with what was submitted and taken for its open connection so far.
moves_to : {L : Type 0} (seen : L → LineSeen) (size : ℕ) (old : Attendant L) (new : SeatMachine) (phase : SeatPhase L)
    (door next : DoorSeen) (before : List Step) (got : List Answer) → (t : IsTended seen size old door before got)
    → next.lines_over ≡ door.lines_over → over_now old.phase ≤ over_now phase
    → IsAt seen size new phase t.now t.getting → IsPlaced phase next
    → IsTended seen size (attendant new phase) next (before ++ []) (got ++ []) × IsCounted old door [] (attendant new phase) next
moves_to seen size old new phase door next before got t over grows at placed =
    none_taken seen size old (attendant new phase) door next before got (grind arith) (grind arith)

pub tends_still : {L : Type 0} (seen : L → LineSeen) (a : Attendant L) (door : DoorSeen) → Tends seen a door [] [] a door
tends_still seen a door size before got h = none_taken seen size a a door door before got (omega arith) h

-- A connection was opened.
pub tends_opened : {L : Type 0} (seen : L → LineSeen) (old new : SeatMachine) (line : L) (action : Action) (door next : DoorSeen)
    → IsMove old events.Opened action new → next.lines_over ≡ door.lines_over → next.is_out ≡ true → next.is_at_end ≡ false
    → seen line ≡ new_line
    → Tends seen (attendant old phases.Between) door [] [] (attendant new (phases.On line action 0)) next
tends_opened seen old new line action door next move over out more fresh size before got t =
    grind (arith, common_steps, moves_to, none_begun action (seen line), opened_on)

-- A connection that has ended was shut.
pub tends_shut : {L : Type 0} (seen : L → LineSeen) (machine : SeatMachine) (line : L) (end : LineEnd) (sent : ℕ) (door next : DoorSeen)
    → next.lines_over ≡ door.lines_over ++ record { seen = seen line; over = end } ∷ [] → next.is_out ≡ false
    → next.is_at_end ≡ door.is_at_end
    → Tends seen (attendant machine (phases.On line (actions.LineOver end) sent)) door [] [] (attendant machine phases.Between) next
tends_shut seen machine line end sent door next left inside still size before got t =
    let over : LineOver = record { seen = seen line; over = end } in
    let on : IsOnLine size machine (seen line) (actions.LineOver end) t.now t.getting = rw t.at_phase.1 t.at_phase.2 in
    let served = line_served size machine (seen line) end t.now t.getting on in
    let lines = lines_more size door.lines_over over t.before t.now t.got t.getting t.of_lines served in
    grind (arith, append-nil, length-append, none_taken)

-- An action of the connection was carried out, or a part of it.
tends_carried : {L : Type 0} (result : Progress) (seen : L → LineSeen) (old new : SeatMachine) (line later : L)
    (action next : Action) (sent now : ℕ) (submitted : List Step) (taken : List Answer) (door : DoorSeen)
    → CarriesOn result old (seen line) action sent new (seen later) next now submitted taken
    → Tends seen (attendant old (phases.On line action sent)) door submitted taken (attendant new (phases.On later next now)) door
tends_carried result seen old new line later action next sent now submitted taken door carries size before got t =
    let at = t.at_phase in
    let c = carries at.0 at.1 in
    let counted = carried_counted result size old new at.0 c.0 action next t.now submitted t.getting taken c.2 at.2 in (
      record {
        before = t.before;
        now = t.now ++ submitted;
        got = t.got;
        getting = t.getting ++ taken;
        of_lines = t.of_lines;
        at_phase = (c.0, c.1, grind (arith, carried_on));
        submitted_is = grind (arith, append_assoc);
        taken_is = grind (arith, append_assoc);
        placed = t.placed;
      },
      grind arith,
    )

-- A step was submitted or was not accepted, and if it was, its answer may have been taken too.
pub tends_submitted : {L : Type 0} (result : Progress) (seen : L → LineSeen) (old new : SeatMachine) (line : L) (step : Step)
    (next : Action) (sent now : ℕ) (submitted : List Step) (taken : List Answer) (door : DoorSeen) → now ≡ 0
    → IsSubmittedOn result old step new next submitted taken
    → Tends seen (attendant old (phases.On line (actions.Submit step) sent)) door submitted taken
    (attendant new (phases.On line next now)) door
tends_submitted result seen old new line step next sent now submitted taken door none (inl s) =
    rw none (tends_carried result seen old new line line (actions.Submit step) next sent 0 submitted taken door
    (λ first e. (seen line, none_begun next (seen line), (e, s.0, s.1))))
tends_submitted result seen old new line step next sent now submitted taken door none (inr s) = λ size before got t.
    let first = tends_carried results.Moved seen old s.1 line line (actions.Submit step) actions.PollMail sent 0 submitted [] door
    (λ first e. (seen line, refl, (e, refl, s.2))) size before got t in
    let last = tends_carried results.Moved seen s.1 new line line actions.PollMail next 0 now [] taken door
    (λ first e. (seen line, rw none (none_begun next (seen line)), (e, refl, s.3))) size (before ++ submitted) (got ++ []) first.0 in
    (rw (append-nil (before ++ submitted), append-nil got) at last.0, grind arith)

-- the same with the link's calls
pub tends_acted : {K L : Type 0} (trace : K → List Step → List Answer → K → Type 0) (result : Progress) (first last : K)
    (seen : L → LineSeen) (old new : SeatMachine) (line later : L) (action next : Action) (sent now : ℕ)
    (submitted : List Step) (taken : List Answer)
    → HasGone trace first action submitted taken last
    → CarriedPart result old (seen line) action sent new (seen later) next now submitted taken
    → (Calls trace first submitted taken last)
    × ((door : DoorSeen) → Tends seen (attendant old (phases.On line action sent)) door submitted taken
    (attendant new (phases.On later next now)) door)
tends_acted trace result first last seen old new line later action next sent now submitted taken h carried = (
  grind arith,
  λ door. tends_carried result seen old new line later action next sent now submitted taken door carried.2,
)

-- A new seat at a new door.
pub tended_new : {L : Type 0} (seen : L → LineSeen) (size : ℕ) (a : Attendant L) (door : DoorSeen) → IsNewSeat size a → IsNewDoor door
    → IsTended seen size a door [] []
tended_new seen size a door seat new = rw (seat.phase, new.none_over) (search rules)

-- The open connection was given a hint, and its record is unchanged.
pub tends_told : {L : Type 0} (seen : L → LineSeen) (a : Attendant L) (line later : L) (action : Action) (sent : ℕ)
    → a.phase ≡ phases.On line action sent → seen later ≡ seen line
    → (door : DoorSeen) → Tends seen a door [] [] (attendant a.machine (phases.On later action sent)) door
tends_told seen a line later action sent is same door = rw is (λ size before got t. search (rules, moves_to))
