-- The headline as a whole, from a history and the laws of runs.
use Rattle.std.proofs.{Common.{Bool, List, Option, ℕ, arith, rules, ◌++◌, ◌∷◌, ◌≡◌}, lemmas.Grind.common_steps}
use Rattle.bq_job.specs.laws.{AreJobsServed, AreJobsServedIn, HeadlineHolds, LineHeadlineHolds, happenings, parts_of_run}
use Rattle.bq_job.specs.promise.{Entry, GoesBy, IsHistoryOf, IsHistoryOfLine, IsRun, LineOver, Transition}
use Rattle.bq_job.specs.machine.{GivenAnswer, Machine.Machine, Settings, new_machine}
use Rattle.bq_job.proofs.AnswerPlaces.{none_after_drain, none_after_last_id, run_deletes, run_gives_least}
use Rattle.bq_job.proofs.{KeptJobLemmas.{accepted_is_kept, held_by_one_always}, OrderLemmas.{at_most_once, in_order}}

jobs_served : (settings : Settings) (taken : List Transition) (last : Machine) → GoesBy (new_machine settings) taken last
    → AreJobsServed taken (happenings (parts_of_run taken))
jobs_served settings taken last goes =
    let drained = λ (early more : List Transition) (t : Transition) (split : taken ≡ early ++ t ∷ more).
    none_after_drain (new_machine settings) early t more last (rw split at goes) in
    search (run_gives_least, at_most_once, in_order, accepted_is_kept, held_by_one_always, run_deletes, none_after_last_id)

pub jobs_served_in : (settings : Settings) (readings : List (Option ℕ)) (history : List Entry) (given : List GivenAnswer) (last : Machine)
    → (run : IsRun settings readings history given last) → AreJobsServedIn run
jobs_served_in settings readings history given last run = let r = run.runs.1 in jobs_served settings r.taken last r.goes

pub headline_holds : (settings : Settings) (doors : List (List LineOver)) (control : List ℕ) (failed : Bool)
    (readings : List (Option ℕ)) (last : Machine)
    → IsHistoryOf settings doors control failed readings last → HeadlineHolds settings doors control failed readings last
headline_holds settings doors control failed readings last h = search (rules, jobs_served)

pub line_headline_holds : (settings : Settings) (seat : ℕ) (line : LineOver) (readings : List (Option ℕ))
    → IsHistoryOfLine settings seat line readings → LineHeadlineHolds settings seat line readings
line_headline_holds settings seat line readings h = grind (arith, common_steps, jobs_served)
