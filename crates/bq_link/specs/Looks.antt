-- What a refusal and an empty intake prove. An invariant by which a place has been free rules out a
-- refusal, and one by which a step has waited rules out an empty intake.
use Rattle.std.specs.Prelude.{ℕ, ◌≡◌, ◌<◌, ◌≤◌, ◌⊎◌, ◌++◌, List, [], length}
use Rattle.bq_job.specs.declared.step.Step.{Step}
use Rattle.bq_link.specs.EndStates.{SeatState, WasFull}
use Rattle.bq_link.specs.Submissions.{MaySubmit, MayTake, Invariant, steps_of}

-- a place has been free since the end's last submission, as long as it submits no more
abbrev pub HadRoom : ℕ → SeatState → Invariant
HadRoom places seat taken waiting = let joined : ℕ = length (steps_of seat.number (taken ++ waiting)) in
    (length seat.submitted ≤ joined) × ((length waiting < places) ⊎ (length seat.submitted < joined))

-- The end's steps keep that invariant, it holds for each intake with a free place, and it rules out
-- a refusal.
pub record TellsNoRefusal (places : ℕ) (seat : SeatState) : Type 0 where
  pub kept : (step : Step) → MaySubmit (HadRoom places seat) places seat.number step
  pub so : (taken waiting : List (ℕ × Step)) → steps_of seat.number (taken ++ waiting) ≡ seat.submitted
      → length waiting < places → HadRoom places seat taken waiting
  pub none : ¬ (WasFull (HadRoom places seat) places seat)

-- some step has waited since these steps were taken, as long as no more are taken
abbrev pub HadSteps : List (ℕ × Step) → Invariant
HadSteps all taken waiting = (length all ≤ length taken) × ((0 < length waiting) ⊎ (length all < length taken))

-- The core's steps keep that invariant, it holds for each intake in which a step waits, and it rules
-- out an empty intake.
pub record TellsNoneEmpty (all : List (ℕ × Step)) : Type 0 where
  pub kept : MayTake (HadSteps all)
  pub so : (waiting : List (ℕ × Step)) → 0 < length waiting → HadSteps all all waiting
  pub none : ¬ (HadSteps all all [])
