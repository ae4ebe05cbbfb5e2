-- A run does not change the settings of its core.
use Rattle.std.proofs.Common.{◌≡◌, ℕ, List, [], ◌∷◌, Option, arith}
use Rattle.bq_job.specs.declared.settings.Settings.{Settings}
use Rattle.bq_job.specs.declared.step.Step.{Step}
use Rattle.bq_job.specs.machine.Dispatch.{GivenAnswer}
use Rattle.bq_job.specs.machine.Machine.{Machine}
use Rattle.bq_job.specs.machine.Steps.{IsStep, Outcome}
use Rattle.bq_job.specs.promise.CoreDid.{IsRun}
use Rattle.bq_job.specs.promise.Runs.{Entry, GoesBy, Transition}

abbrev pub StepsKeepSettings : Type 0
StepsKeepSettings = (first last : Machine) (at seat : ℕ) (what : Step) (outcome : Outcome) (given : List GivenAnswer)
    → IsStep first at seat what outcome given last → last.settings ≡ first.settings

run_keeps : StepsKeepSettings → (first : Machine) (taken : List Transition) (last : Machine) → GoesBy first taken last
    → last.settings ≡ first.settings
run_keeps law first [] last e = grind arith
run_keeps law first (t ∷ taken) last g =
    let kept = law t.first t.last t.entry.moment t.entry.seat t.entry.what t.outcome t.given g.1.step in
    grind (arith, run_keeps law t.last taken last g.2)

pub run_keeps_settings : StepsKeepSettings → (settings : Settings) (readings : List (Option ℕ)) (history : List Entry)
    (given : List GivenAnswer) (last : Machine) → IsRun settings readings history given last → last.settings ≡ settings
run_keeps_settings law settings readings _ _ last run = grind (arith, run_keeps)
