-- Steps without ticks.
use Rattle.std.specs.Prelude.{ℕ, ◌≡◌, false, List}
use Rattle.std.specs.List.{AllByRecursion}
use Rattle.bq_job.specs.declared.step.Step.{Step}
use Rattle.bq_job.specs.promise.History.{is_tick}

-- None of these steps, each with the number of its end, is a tick.
abbrev pub IsTickless : List (ℕ × Step) → Type 0
IsTickless all = AllByRecursion (λ t. is_tick t.1 ≡ false) all
