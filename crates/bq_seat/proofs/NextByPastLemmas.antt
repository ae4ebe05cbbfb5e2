-- What the steps and the mail of a connection imply for the machine's next action.
use Rattle.std.proofs.Common.{◌≡◌, ℕ, ◌+◌, ◌<◌, Bool, true, false, ◌&&◌, ◌==◌, not, List, [], ◌∷◌, ◌++◌, Some, map, length, refl, sym, ap}
use Rattle.std.proofs.Common.{◌∙◌, arith}
use Rattle.std.proofs.lemmas.Bool.{Decides.nat_tests}
use Rattle.std.proofs.lemmas.Grind.{common_steps}
use Rattle.bq_job.specs.declared.request.Request.{Request}
use Rattle.bq_job.specs.declared.step.Step.{Step}
use Rattle.bq_job.specs.reading.Reading.{is_quit}
use Rattle.bq_job.specs.promise.LineSteps.{wanted}
use Rattle.bq_job.specs.declared.line_end.LineEnd.{LineEnd}
use Rattle.bq_job.specs.declared.step.Step.TheVariants as steps
use Rattle.bq_wire.specs.declared.reader.ReaderState.{ReaderState}
use Rattle.bq_seat.specs.NextByPast.{IsNextAfterStep, asked_in, is_read_on, is_unanswered, last_step}
use Rattle.bq_seat.specs.Past.{Past}
use Rattle.bq_seat.specs.SeatStands.{HasAskedQuit, IsClosing, IsOpen, IsWaiting, end_if, has_quit, StandsFor}
use Rattle.bq_seat.specs.Outstanding.{ReadsWith}
use Rattle.bq_seat.specs.declared.machine.SeatMachine.{SeatMachine}
use Rattle.bq_seat.specs.declared.machine.Action.TheVariants as actions
use Rattle.bq_seat.specs.declared.machine.Stage.TheVariants as stages
use Rattle.bq_job.proofs.GivenLemmas.{wanted_append}
use Rattle.bq_seat.proofs.StepLemmas.{ends_by, answered_count-asked, has_quit-last}

last_step-append : (taken : List Step) (step : Step) → last_step (taken ++ step ∷ []) ≡ Some step
last_step-append [] step = refl
last_step-append (a ∷ []) step = refl
last_step-append (a ∷ b ∷ taken) step = last_step-append (b ∷ taken) step

-- after a quit
pub behind_quit : (p : Past) → HasAskedQuit p → IsNextAfterStep (last_step p.steps) (actions.Submit steps.Close)
behind_quit p q = grind (arith, last_step-append)

no_quit_behind : (last : Request) → is_quit last ≡ false → IsNextAfterStep (Some (steps.Ask last)) actions.PollMail
no_quit_behind last e = grind (arith, common_steps)

behind_asked : (asked : List Request) (taken : List Step) → taken ≡ steps.Connect ∷ map steps.Ask asked → 0 < length asked
    → has_quit asked ≡ false → IsNextAfterStep (last_step taken) actions.PollMail
behind_asked [] taken is some none = absurd (omega arith)
behind_asked (r ∷ asked) taken is some none =
    let ends = ends_by r asked in
    let last = last_step-append (steps.Connect ∷ map steps.Ask ends.before) (steps.Ask ends.last) in
    let quit = has_quit-last ends.before ends.last (ap has_quit (sym ends.is) ∙ none) in
    grind (arith, common_steps)

module _ {r : ReaderState} {kept : List ℕ} {told : Bool} {p : Past} (o : IsOpen r kept told 1 p) where
  -- after a request that wants an answer
  pub behind_request : told ≡ false → IsNextAfterStep (last_step p.steps) actions.PollMail
  behind_request untold = grind (arith, common_steps, behind_asked)

  -- after the end was submitted
  pub behind_end : told ≡ true → IsNextAfterStep (last_step p.steps) actions.PollMail
  behind_end was_told = grind (arith, last_step-append)

-- after the close
pub behind_close : (size : ℕ) (end : LineEnd) (p : Past) → IsClosing size end p → IsNextAfterStep (last_step p.steps) actions.PollMail
behind_close size end p c = grind (arith, last_step-append, c.served [])

pub wanted_open : {r : ReaderState} {kept : List ℕ} {told : Bool} {out : ℕ} {p : Past} → IsOpen r kept told out p
    → wanted p.steps ≡ length p.mail + out
wanted_open {told = told} o = grind (arith, wanted_append, answered_count-asked)

-- no answer is outstanding
pub answered_all : {r : ReaderState} {kept : List ℕ} {told : Bool} {p : Past} → IsOpen r kept told 0 p → is_unanswered p ≡ false
answered_all o = let w = wanted_open o in grind (arith, nat_tests)

-- an answer is outstanding
pub one_unanswered : {r : ReaderState} {kept : List ℕ} {told : Bool} {p : Past} → IsOpen r kept told 1 p → is_unanswered p ≡ true
one_unanswered o = let w = wanted_open o in grind (arith, nat_tests)

asked_in-ends : (asked : List Request) (told : Bool) → asked_in (map steps.Ask asked ++ end_if told) ≡ asked
asked_in-ends [] told = grind (arith, common_steps)
asked_in-ends (r ∷ asked) told = grind (arith, asked_in-ends asked told)

-- whether the connection is read while an answer is outstanding
pub read_on_is : {r : ReaderState} {told waits : Bool} {p : Past} (kept : List ℕ) → IsWaiting r kept told waits p
    → is_read_on kept p ≡ (waits && not told && (length kept == 0))
read_on_is kept h1 = grind (arith, asked_in-ends)

-- ---- how many answers are outstanding while a connection is read

pub reads_alone : (m : SeatMachine) → (m.stage ≡ stages.ReadingOn → ⊥) → ReadsWith false m
unfolding StandsFor
reads_alone m other reads p s = grind (arith, common_steps)

pub reads_with_one : (m : SeatMachine) → m.stage ≡ stages.ReadingOn → ReadsWith true m
unfolding StandsFor
reads_with_one m is reads p s = grind (arith, common_steps)
