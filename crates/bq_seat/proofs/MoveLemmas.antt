-- The moves of a seat machine: what holds in the pasts that it represents, and how they continue.
use Rattle.std.proofs.Common.{◌≡◌, ◌≤◌, ◌+◌, Bool, true, false, List, [], Some, length, refl}
use Rattle.std.proofs.Common.{sym, ap, ◌∙◌, arith, subst, append-nil, ℕ, if◌then◌else◌, not, ◌&&◌, ◌==◌}
use Rattle.std.proofs.lemmas.Bool.{cases_Bool}
use Rattle.std.proofs.lemmas.Grind.{common_steps}
use Rattle.bq_job.specs.declared.answer.Answer.{Answer}
use Rattle.bq_job.specs.declared.line_end.LineEnd.{LineEnd}
use Rattle.bq_job.specs.promise.LineSteps.{wanted}
use Rattle.bq_job.specs.machine.OneClient.{is_closed_answer}
use Rattle.bq_job.specs.declared.step.Step.TheVariants as steps
use Rattle.bq_job.proofs.GivenLemmas.{wanted_append}
use Rattle.bq_seat.specs.Finds.{Finds}
use Rattle.bq_seat.specs.Past.{IsOrderly, Past, awaited_by, is_stray, past_after, with_action, with_event}
use Rattle.bq_seat.specs.Past.{Awaited, answers, first_past}
use Rattle.bq_seat.specs.SeatMoves.{IsAnswered, IsMove}
use Rattle.bq_seat.specs.SeatParts.{IfLineOver, IsStagedMove, OpensLine, GoesOn, ServesAll, between, in_stage, is_asking, reads_on}
use Rattle.bq_seat.specs.SeatStands.{AgreesWith, IsClosing, StandsInStage, StandsFor, awaited_at, IsOpen, awaited}
use Rattle.bq_seat.specs.Served.{IsServed}
use Rattle.bq_wire.specs.declared.reader.ReaderState.{ReaderState}
use Rattle.bq_seat.specs.declared.machine.Action.{Action}
use Rattle.bq_seat.specs.declared.machine.Event.{Event}
use Rattle.bq_seat.specs.declared.machine.SeatMachine.{SeatMachine}
use Rattle.bq_seat.specs.declared.machine.Stage.{Stage}
use Rattle.bq_seat.specs.NextByPast.{GoesFurther, IsNextAction, is_read_on}
use Rattle.bq_wire.specs.Standing.{Stands}
use Rattle.bq_seat.specs.declared.machine.Action.TheVariants as actions
use Rattle.bq_seat.specs.declared.machine.Event.TheVariants as events
use Rattle.bq_seat.specs.declared.machine.Stage.TheVariants as stages
use Rattle.bq_seat.proofs.StepLemmas.{asks_at, closes_at, connects, quits_at, tells_at, none_kept}
use Rattle.bq_seat.proofs.NextByPastLemmas.{behind_request, wanted_open, read_on_is}
use Rattle.bq_seat.proofs.OpenLemmas.{answered, opened, served_now, still_closing}

-- a connection that is being closed lacks one answer at most
few_at_close : (end : LineEnd) (p : Past) {size : ℕ} → IsClosing size end p → wanted p.steps ≤ length p.mail + 1
few_at_close end p h = grind (arith, wanted_append, h.served [])

-- The past with the event justifies the action, in the stage after it.
found : (size : ℕ) (stage : Stage) (action : Action) (reader : ReaderState) (kept : List ℕ) (told : Bool) (q : Past)
    → awaited_by action ≡ Some (awaited_at stage) → StandsInStage stage reader kept told (with_action action q)
    → IfLineOver action (λ end. (written : List ℕ) → IsServed size written end q) → Finds size action q
found size stages.Connecting (actions.Submit step) reader kept told q e h over = connects q.steps q.mail step h.2
found size (stages.Asking waits) (actions.Submit step) reader kept told q e h over = grind (arith, asks_at, append-nil)
found size stages.TellingEnd (actions.Submit step) reader kept told q e h over = grind (arith, tells_at)
found size stages.AskingQuit (actions.Submit step) reader kept told q e h over = quits_at q.steps q.mail step h.2 refl refl
found size (stages.Closing end) (actions.Submit step) reader kept told q e h over =
    let line = (h.served []).line in
    grind (arith, closes_at)
found size stages.Reading actions.Read reader kept told q e h over = grind arith
found size stages.ReadingOn actions.Read reader kept told q e h over = grind arith
found size (stages.Polling waits) actions.PollMail reader kept told q e h over = let w = wanted_open h.0 in omega arith
found size (stages.Leaving end) actions.PollMail reader kept told q e h over = few_at_close end q h
found size stages.Writing (actions.Write answer) reader kept told q e h over = (h.0.stepped.closing_is, h.0.handed.fault_is)
found size stage (actions.LineOver end) reader kept told q e h over = over
found size stage actions.Stray reader kept told q e h over = tt
found size _ _ reader kept told q e h over = absurd cc

-- ---- pasts stay orderly

orderly_after : (event : Event) (action : Action) (p : Past) → IsOrderly p → IsOrderly (past_after event action p)
orderly_after event action p o = grind (arith, common_steps)

over_at : (old : SeatMachine) (event : Event) (action : Action) (p : Past) → AgreesWith old p
    → IfLineOver action (λ end. (q : Past) → AgreesWith old q → (written : List ℕ)
    → IsServed old.reader.max_job_size written end (past_after event action q))
    → IfLineOver action (λ end. (written : List ℕ) → IsServed old.reader.max_job_size written end (with_event event p))
over_at old event (actions.LineOver end) p h over = over p h
over_at old event _ p h over = tt

pub is_move : (old : SeatMachine) (event : Event) (action : Action) (new : SeatMachine) → IsStagedMove old event action new
    → IsMove old event action new
unfolding StandsFor
is_move old event action new m = record {
  stray = m.stray;
  unchanged = m.unchanged;
  awaits = m.awaits;
  limit = m.limit;
  opened = let h = m.opened in grind arith;
  past = λ p h. (m.past p h.0, orderly_after event action p h.1);
  finds = λ e p h. let past = m.past p h.0 in let over = over_at old event action p h.0 m.over in grind (arith, found);
  looks = λ e p h. m.looks e p h.0;
}

-- ---- the move of a machine in a stage

-- What computing shows of a move in this stage: the event is awaited, what is awaited next answers the action, the limit on bodies
-- stays, and how a connection is opened or ends.
abbrev pub Turns : Stage → Event → Action → SeatMachine → SeatMachine → Type 0
Turns s event action old next = (answers event (awaited_at s) ≡ true) × (awaited_by action ≡ Some (awaited next))
    × (next.reader.max_job_size ≡ old.reader.max_job_size)
    × OpensLine event action next × IfLineOver action (ServesAll (in_stage s old) event action)

is_not_stray : (action : Action) (what : Awaited) → awaited_by action ≡ Some what → is_stray action ≡ false
is_not_stray action what e = grind (arith, common_steps)

-- The move of a machine in this stage. It remains to show how the connection's past goes on, and
-- why the machine does this next.
pub turn : {s : Stage} {event : Event} {action other : Action} {old new next : SeatMachine} → old.stage ≡ s → action ≡ other → new ≡ next
    → Turns s event other old next
    → ((p : Past) → StandsInStage s old.reader old.kept old.end_told p → AgreesWith next (with_action other (with_event event p)))
    → ((p : Past) → StandsInStage s old.reader old.kept old.end_told p → IsNextAction (awaited_at s) old.kept event p other)
    → IsMove old event action new
turn {s} {event} {action} {other} {old} {new} {next} at does is t past looks =
    let plain = is_not_stray other (awaited next) t.1 in
    let P : Stage → Type 0 = λ x. IsStagedMove (in_stage x old) event other next in
    rw (does, is) (is_move old event other next (subst P (sym at) (record {
      stray = plain ∙ sym (ap not t.0);
      unchanged = λ e. cc;
      awaits = λ e. t.1;
      limit = t.2;
      opened = t.3;
      past = λ p h. subst (λ b. AgreesWith next (if b then p else with_action other (with_event event p))) (sym plain) (past p h);
      over = t.4;
      looks = λ e. looks;
    })))

-- an action with which the machine continues does not end the connection
going_not_over : (action : Action) (P : LineEnd → Type 0) → GoesFurther action → IfLineOver action P
going_not_over action P e = grind (arith, common_steps)

all_three : (waits told : Bool) (kept : List ℕ) → (waits && not told && (length kept == 0)) ≡ true
    → (waits ≡ true) × (told ≡ false) × (kept ≡ [])
all_three waits told kept e = grind (arith, common_steps, cases_Bool, none_kept)

-- No answer is outstanding after the event, and the machine continues after it from `mid`.
pub goes_on : {s : Stage} {event : Event} {action : Action} {old new : SeatMachine} (mid : SeatMachine) → old.stage ≡ s
    → answers event (awaited_at s) ≡ true → OpensLine event action new → mid.reader.max_job_size ≡ old.reader.max_job_size
    → ((p : Past) → StandsInStage s old.reader old.kept old.end_told p → IsOpen mid.reader mid.kept mid.end_told 0 (with_event event p))
    → ((p : Past) → StandsInStage s old.reader old.kept old.end_told p → IsNextAction (awaited_at s) old.kept event p action)
    → GoesOn mid action new → IsMove old event action new
goes_on {event = event} {action = action} mid at answered opened same begins looks g =
    turn at refl refl (answered, g.awaits, g.limit ∙ same, opened, going_not_over action _ g.further)
    (λ p h. g.past (with_event event p) (begins p h)) looks

-- the machine itself, in the stage that it is in
pub stays : {m new : SeatMachine} {s : Stage} → m.stage ≡ s → new ≡ m → new ≡ in_stage s m
stays {m} {new} at is = grind arith

-- No answer has come. The connection is read if a reserve waits.
pub nothing_in_polling : (m new : SeatMachine) (action : Action) (waits : Bool) → m.stage ≡ stages.Polling waits
    → action ≡ (if reads_on waits m then actions.Read else actions.PollMail)
    → new ≡ (if reads_on waits m then in_stage stages.ReadingOn m else m) → IsMove m events.NothingYet action new
nothing_in_polling m new action waits at = go (reads_on waits m) refl
  where
    looks : (p : Past) → StandsInStage (stages.Polling waits) m.reader m.kept m.end_told p
        → (not p.closing && is_read_on m.kept p) ≡ reads_on waits m
    looks p h = ap (λ b. not b && is_read_on m.kept p) h.0.stepped.closing_is ∙ read_on_is m.kept h

    go : (on : Bool) → reads_on waits m ≡ on → action ≡ (if on then actions.Read else actions.PollMail)
        → new ≡ (if on then in_stage stages.ReadingOn m else m) → IsMove m events.NothingYet action new
    go true e does is = let all = all_three waits m.end_told m.kept e in
        turn at does is (refl, refl, refl, tt, tt) (λ p h. ((h.0, h.1 ∙ all.0), all.2, all.1)) (λ p h. rw (looks p h, e) refl)
    go false e does is = turn at does (stays at is) (refl, refl, refl, tt, tt) (λ p h. h) (λ p h. rw (looks p h, e) refl)

-- An answer comes after the close: the close's own answer ends the connection, and the reader is
-- restarted.
pub mail_in_leaving : (m new : SeatMachine) (action : Action) (next : ReaderState) (end : LineEnd) (answer : Answer)
    → m.stage ≡ stages.Leaving end → next.max_job_size ≡ m.reader.max_job_size
    → action ≡ (if is_closed_answer answer then actions.LineOver end else actions.PollMail)
    → new ≡ (if is_closed_answer answer then between next m else m) → IsMove m (events.Mail answer) action new
mail_in_leaving m new action next end answer at same = go (is_closed_answer answer) refl
  where
    served : is_closed_answer answer ≡ true → (size : ℕ) → size ≡ m.reader.max_job_size → (p : Past)
        → StandsInStage (stages.Leaving end) m.reader m.kept m.end_told p → (written : List ℕ)
        → IsServed size written end (with_event (events.Mail answer) p)
    served own size is p h written = rw is (served_now m.reader.max_job_size end p answer h own written)

    go : (own : Bool) → is_closed_answer answer ≡ own → action ≡ (if own then actions.LineOver end else actions.PollMail)
        → new ≡ (if own then between next m else m) → IsMove m (events.Mail answer) action new
    go true e does is = turn at does is (refl, refl, same, tt, served e m.reader.max_job_size refl)
        (λ p h. (end, served e next.max_job_size same p h)) (λ p h. rw (h.closing_is, e) tt)
    go false e does is = turn at does (stays at is) (refl, refl, refl, tt, tt)
        (λ p h. still_closing m.reader.max_job_size end p answer h e) (λ p h. rw (h.closing_is, e) refl)

-- a connection is opened
pub opens : (m new : SeatMachine) (action : Action) → m.stage ≡ stages.Between → action ≡ actions.Submit steps.Connect
    → new.stage ≡ stages.Connecting → new.end_told ≡ false → Stands new.reader [] → new.reader.max_job_size ≡ m.reader.max_job_size
    → new.kept ≡ [] → IsMove m events.Opened action new
opens m new action at does connects untold stands same none =
    let begun : AgreesWith new first_past = rw (connects, untold, none) (opened new.reader stands) in
    turn at does refl (refl, rw connects refl, same, (λ e. (refl, begun)), tt) (λ p h. begun) (λ p h. refl)

-- A request is submitted, and then its answer comes.
pub asks_and_takes : (m : SeatMachine) (stage : Stage) → m.stage ≡ stage → is_asking stage ≡ true → (answer : Answer) (action : Action)
    → action ≡ actions.Write answer → IsAnswered m answer action (in_stage stages.Writing m)
asks_and_takes m (stages.Asking waits) at asking answer action lies = (
  in_stage (stages.Polling waits) m,
  turn at refl refl (refl, refl, refl, tt, tt) (λ p h. h.0) (λ p h. behind_request h.0.0 h.1),
  turn refl lies refl (refl, refl, refl, tt, tt) (λ p h. answered answer h) (λ p h. rw h.0.stepped.closing_is refl),
)
asks_and_takes m _ at asking answer action lies = absurd cc
