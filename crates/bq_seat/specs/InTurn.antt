-- When a seat machine submits a step.
use Rattle.std.specs.Prelude.{◌≡◌, ◌+◌, ◌≤◌, Bool, false, List, [], ◌∷◌, ◌++◌, map, length}
use Rattle.bq_job.specs.declared.answer.Answer.{Answer}
use Rattle.bq_job.specs.declared.request.Request.{Request}
use Rattle.bq_job.specs.declared.step.Step.{Step}
use Rattle.bq_job.specs.declared.step.Step.TheVariants as steps
use Rattle.bq_job.specs.promise.LineSteps.{wanted}
use Rattle.bq_seat.specs.SeatStands.{end_if, has_quit}

-- a client that has connected and made these requests, none of them quit
pub record HasAsked (asked : List Request) (taken : List Step) : Type 0 where
  pub steps_are : taken ≡ steps.Connect ∷ map steps.Ask asked
  pub no_quit : has_quit asked ≡ false

-- When a step is submitted, given the steps and the answers so far. A connect comes first. A
-- request is submitted once all earlier ones are answered. An end comes after the connect and the
-- requests, at most once, and a close after these; then at most one answer is outstanding.
abbrev pub IsInTurn : Step → List Step → List Answer → Type 0
IsInTurn steps.Connect taken mail = taken ≡ []
IsInTurn (steps.Ask request) taken mail = (asked : List Request) × HasAsked asked taken × (length mail ≡ length asked)
IsInTurn steps.End taken mail = (asked : List Request) × HasAsked asked taken × (wanted taken ≤ length mail + 1)
IsInTurn steps.Close taken mail =
    (asked : List Request) × (told : Bool) × (taken ≡ (steps.Connect ∷ map steps.Ask asked) ++ end_if told)
    × (wanted taken ≤ length mail + 1)
IsInTurn steps.Drain taken mail = ⊥
IsInTurn steps.Tick taken mail = ⊥
IsInTurn steps.Gone taken mail = ⊥
