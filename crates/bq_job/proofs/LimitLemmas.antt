-- There are never more jobs than the job limit.
use Rattle.std.proofs.Common.{◌∙◌, ◌≡◌, ◌≤◌, List, Some, ℕ, arith, length, refl}
use Rattle.std.specs.List.{Contains}
use Rattle.bq_job.specs.{laws.{Part, parts_of_run}, machine.{Machine.Machine, new_machine}}
use Rattle.bq_job.specs.{promise.{GoesBy, Transition}, Types.Settings}
use Rattle.bq_job.proofs.StepMoves.{always}

pub few_always : (settings : Settings) (taken : List Transition) (last : Machine) (p : Part) (most : ℕ)
    → GoesBy (new_machine settings) taken last → Contains (parts_of_run taken) p → settings.max_jobs ≡ Some most
    → length p.machine.jobs ≤ most
few_always settings taken last p most goes i e = (always (λ m. (m.settings ≡ settings) × (length m.jobs ≤ most))
    (λ m p g few. (g.within.settings ∙ few.0, g.within.few most (rw few.0 e) few.1)) settings taken last p (refl, omega arith) goes i).1
