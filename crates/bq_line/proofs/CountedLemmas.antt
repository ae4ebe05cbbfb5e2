-- How many connections have ended at a seat, and how often it was answered `Closed`.
use Rattle.std.proofs.Common.{ℕ, ◌≡◌, ◌≤◌, true, false, List, [], ◌∷◌, ◌++◌, length}
use Rattle.std.proofs.Common.{refl, ap, arith, append-nil}
use Rattle.bq_job.specs.beside.Closings.{closes, closings}
use Rattle.bq_job.specs.declared.answer.Answer.{Answer}
use Rattle.bq_job.specs.declared.step.Step.{Step}
use Rattle.bq_job.specs.declared.step.Step.TheVariants as steps
use Rattle.bq_job.specs.machine.OneClient.{has_closed}
use Rattle.bq_job.specs.promise.LineSteps.{LineSeen, heard}
use Rattle.bq_job.proofs.ClosedLemmas.{asked_steps_closings, closings_append, line_closings, lines_closings}
use Rattle.bq_job.proofs.CutLemmas.{closes_append, unclosed_closes}
use Rattle.bq_seat.specs.InTurn.{IsInTurn}
use Rattle.bq_seat.specs.Past.{has_close}
use Rattle.bq_seat.specs.Served.{seen_line}
use Rattle.bq_seat.specs.declared.machine.Action.{Action}
use Rattle.bq_seat.specs.declared.machine.Action.TheVariants as actions
use Rattle.bq_seat.specs.declared.machine.SeatMachine.{SeatMachine}
use Rattle.bq_seat.proofs.OrderlyLemmas.{orderly}
use Rattle.bq_line.specs.Attending.{IsAt, IsOnLine}
use Rattle.bq_line.specs.Carried.{Carried}
use Rattle.bq_line.specs.Tending.{DoorSeen, IsCounted, IsTended, ended_lines, is_polling, over_by, over_now, polls_by}
use Rattle.bq_line.specs.declared.attendant.Attendant.{Attendant}
use Rattle.bq_line.specs.declared.attendant.SeatPhase.{SeatPhase}
use Rattle.bq_line.specs.declared.attendant.SeatPhase.TheVariants as phases
use Rattle.bq_line.specs.declared.attendant.Progress.{Progress}

-- ---- what an action counts

-- A connection that has ended stays so until it is shut. If the mail is checked next, no `Closed`
-- was taken.
pub carried_counted : (result : Progress) (size : ℕ) (old new : SeatMachine) (seen later : LineSeen) (action next : Action)
    (before submitted : List Step) (got taken : List Answer)
    → Carried result old seen action new later next submitted taken → IsOnLine size old seen action before got
    → (over_by action ≤ over_by next) × (polls_by next ≡ true → has_closed taken ≡ false)
carried_counted result size old new seen later action next before submitted got taken h12 h13 = grind arith

-- ---- the steps of an open line

unclosed_steps : (taken : List Step) → has_close taken ≡ false → closings taken ≡ 0
unclosed_steps [] h = refl
unclosed_steps (step ∷ taken) h = grind (arith, unclosed_steps taken)

-- no close was submitted before this step
turn_closings : (step : Step) (taken : List Step) (mail : List Answer) → IsInTurn step taken mail → closings taken ≡ 0
turn_closings (steps.Ask request) taken mail t = grind (arith, append-nil, asked_steps_closings t.0 [] refl)
turn_closings steps.End taken mail t = grind (arith, append-nil, asked_steps_closings t.0 [] refl)
turn_closings _ taken mail t = grind (arith, asked_steps_closings)

-- Unless the seat checks its mail next, only a connection that has ended is closed.
on_closings : (size : ℕ) (machine : SeatMachine) (seen : LineSeen) (action : Action) (submitted : List Step) (taken : List Answer)
    → IsOnLine size machine seen action submitted taken → polls_by action ≡ false → closings submitted ≤ over_by action
on_closings size machine seen (actions.LineOver end) submitted taken o p =
    grind (arith, line_closings size (heard (seen_line [] o.past)) end o.past.steps (o.found []).to_close.line)
on_closings size machine seen action submitted taken o p = grind (arith, unclosed_steps, orderly, turn_closings)

-- a connection that has ended was answered `Closed`
on_closes : (size : ℕ) (machine : SeatMachine) (seen : LineSeen) (action : Action) (submitted : List Step) (taken : List Answer)
    → IsOnLine size machine seen action submitted taken → over_by action ≤ closes taken
on_closes size machine seen (actions.LineOver end) submitted taken o = grind (arith, closes_append, (o.found []).late)
on_closes size machine seen _ submitted taken o = omega arith

module _ {L : Type 0} (seen : L → LineSeen) (size : ℕ) where
  at_closings : (machine : SeatMachine) (phase : SeatPhase L) (submitted : List Step) (taken : List Answer)
      → IsAt seen size machine phase submitted taken → is_polling phase ≡ false → closings submitted ≤ over_now phase
  at_closings machine (phases.On line action sent) submitted taken at p = on_closings size machine at.0 action submitted taken at.2 p
  at_closings machine _ submitted taken at p = let e = ap closings at.0 in omega arith

  at_closes : (machine : SeatMachine) (phase : SeatPhase L) (submitted : List Step) (taken : List Answer)
      → IsAt seen size machine phase submitted taken → over_now phase ≤ closes taken
  at_closes machine (phases.On line action sent) submitted taken at = on_closes size machine at.0 action submitted taken at.2
  at_closes machine _ submitted taken at = omega arith

  -- The seat took at most one `Closed` for each connection that has ended, and went on. The core
  -- gave at most one to each close.
  pub counted_on : (old new : Attendant L) (door next : DoorSeen) (submitted : List Step) (got taken : List Answer)
      → IsCounted old door taken new next → IsTended seen size new next submitted (got ++ taken)
      → closes (got ++ taken) ≤ closings submitted → closes got ≤ ended_lines old door
      → closes (got ++ taken) ≤ ended_lines new next
  counted_on old new door next submitted got taken counted t law few =
      grind (arith, closes_append, unclosed_closes, closings_append, lines_closings, at_closings)

  -- The connections that have ended took no other `Closed`.
  pub got_few : (a : Attendant L) (door : DoorSeen) (submitted : List Step) (taken : List Answer)
      → (t : IsTended seen size a door submitted taken) → closes taken ≤ ended_lines a door
      → closes t.got ≤ length door.lines_over
  got_few a door submitted taken t few = grind (arith, closes_append, at_closes)
