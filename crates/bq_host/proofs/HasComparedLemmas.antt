-- How the count of a core's comparisons grows with what the core does.
use Rattle.std.proofs.Common.{◌≡◌, ℕ, true, false, List, [], ◌∷◌, ◌++◌, refl, append_assoc, arith}
use Rattle.std.proofs.lemmas.Grind.{common_steps}
use Rattle.bq_job.specs.declared.step.Step.{Step}
use Rattle.bq_job.specs.machine.Dispatch.{GivenAnswer}
use Rattle.bq_job.specs.machine.Steps.{Outcome}
use Rattle.bq_job.specs.promise.Runs.{Entry}
use Rattle.bq_core_api.specs.Cost.{IsLookWithin, IsStepWithin}
use Rattle.bq_host.specs.Compared.{AreCompared, LooksOnce}
use Rattle.bq_host.specs.{MailStates.{MailState, timed_of}, TimedRuns.{Compares, TimedState}}
use Rattle.bq_host.proofs.ComparedLemmas.{looked_within, within_on}

-- The core took one step.
pub compared_step : (d n : TimedState) (at seat : ℕ) (what : Step) (outcome : Outcome) (given : List GivenAnswer)
    → IsStepWithin d.core at seat what outcome given n.core d.compared n.compared → n.known ≡ false
    → Compares d (record { moment = at; seat = seat; what = what } ∷ []) given n
compared_step d n at seat what outcome given step unknown start before gave from h =
    (n.compared, grind (arith, within_on, looked_within d.known d.core h.0 d.compared h.2), rw unknown refl)

-- The core was not used.
pub compared_still : (d n : TimedState) → n.core ≡ d.core → n.known ≡ d.known → n.compared ≡ d.compared → Compares d [] [] n
compared_still d n core known compared = grind (arith, common_steps)

-- It was asked for the next due moment, if that was not known.
pub compared_looked : (d n : TimedState) → n.known ≡ true → n.core ≡ d.core
    → ((count : ℕ) → LooksOnce d.known d.core count d.compared → IsLookWithin d.core count n.compared) → Compares d [] [] n
compared_looked d n known core once = grind (arith, common_steps)

-- One part of a history after another.
pub compared_on : (first next last : TimedState) (history more : List Entry) (given later : List GivenAnswer)
    → Compares first history given next → Compares next more later last → Compares first (history ++ more) (given ++ later) last
compared_on first next last history more given later a b start before gave from h =
    rw (← append_assoc before history more, ← append_assoc gave given later)
    (b start (before ++ history) (gave ++ given) from (a start before gave from h))

-- From a core that was not asked for the next due moment yet.
pub compared_from : (first last : TimedState) (history : List Entry) (given : List GivenAnswer) → first.known ≡ false
    → Compares first history given last → AreCompared first.core history given last.core first.compared last.compared
compared_from first last history given unknown h = grind (arith, looked_within, h first.core [] [] first.compared)

-- From a core that has compared nothing.
pub compared_all : (first last : MailState) (history : List Entry) (given : List GivenAnswer) → first.known ≡ false → first.compared ≡ 0
    → Compares (timed_of first) history given (timed_of last) → AreCompared first.core history given last.core 0 last.compared
compared_all first last history given unknown none h = grind (arith, compared_from (timed_of first) (timed_of last) history given unknown h)
