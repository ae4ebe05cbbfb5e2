-- A job that is handed out.
use Rattle.std.specs.Prelude.{Err, List, None, Ok, Option, Result, Some, false, is_some, true, ℕ, ◌≡◌}
use Rattle.bq_job.specs.machine.{Changes.{job_with, with_job}, Dispatch.reserved_by, SeatRecord}
use Rattle.bq_jobs.specs.{Numbering.HasNumber, Searching.Asks, Seen.IsBodyOf, declared.numbered_jobs.JobMove.JobMove}
use Rattle.bq_state.specs.{CoreParts.machine_of, Keeping.OnlySearches, Knowledge.{is_wanted_by, with_moved}, TubesSeen.TubesSeen}
use Rattle.bq_state.specs.{TubesSeen.{entry_moved, with_entry}, WaitingList.WaitingList, Warnings.has_waiting_holder}
use Rattle.bq_state.specs.declared.{core_parts.CoreParts.CoreParts, known.Known.Known}

-- The client at the seat holds the job with this id, and this is the job's body.
pub record GoesTo (seat id : ℕ) (body : List ℕ) (old new : CoreParts) : Type 0 where
  pub body_is : IsBodyOf (job_with id (machine_of old).jobs) body
  pub after : machine_of new ≡ with_job id (reserved_by old.moment seat) (machine_of old)
  pub asks : Asks 7 old.store.jobs new.store.jobs

-- The job with this id goes to the client at the seat, with this reference to its body. If there is
-- no such job, or the reference was refused, nothing was changed.
abbrev pub HandsOutTo : {E : Type 0} → ℕ → ℕ → Option (Result (List ℕ) E) → CoreParts → CoreParts → Type 0
HandsOutTo seat id None old new = (false ≡ is_some (job_with id (machine_of old).jobs)) × OnlySearches 1 old new
HandsOutTo seat id (Some (Err e)) old new = (true ≡ is_some (job_with id (machine_of old).jobs)) × OnlySearches 1 old new
HandsOutTo seat id (Some (Ok body)) old new = GoesTo seat id body old new

-- A changed job is counted in its tube, and what is known is updated.
abbrev pub CountsMove : JobMove → WaitingList → List SeatRecord → Known → Known → TubesSeen → TubesSeen → Type 0
CountsMove m waiting seats known later tubes counted =
    (later ≡ with_moved m (is_wanted_by waiting tubes m) (has_waiting_holder m.to.state seats) known)
    × (counted ≡ with_entry m.tube (entry_moved m) tubes)

-- what a change returned that may have been refused: the number of the tube, the report, and the body
module _ {E : Type 0} where
  abbrev pub body_in : Option (Result ((List ℕ × JobMove) × List ℕ) E) → Option (Result (List ℕ) E)
  body_in None = None
  body_in (Some (Err e)) = Some (Err e)
  body_in (Some (Ok s)) = Some (Ok s.1)

  abbrev pub HasNumberIf : Option (Result ((List ℕ × JobMove) × List ℕ) E) → List (List ℕ × ℕ) → Type 0
  HasNumberIf None numbers = Unit {0}
  HasNumberIf (Some (Err e)) numbers = Unit {0}
  HasNumberIf (Some (Ok s)) numbers = HasNumber s.0.1.tube s.0.0 numbers

  abbrev pub CountsIf : Option (Result ((List ℕ × JobMove) × List ℕ) E) → WaitingList → List SeatRecord → Known → Known → TubesSeen
      → TubesSeen → Type 0
  CountsIf None waiting seats known later tubes counted = (later ≡ known) × (counted ≡ tubes)
  CountsIf (Some (Err e)) waiting seats known later tubes counted = (later ≡ known) × (counted ≡ tubes)
  CountsIf (Some (Ok s)) waiting seats known later tubes counted = CountsMove s.0.1 waiting seats known later tubes counted
