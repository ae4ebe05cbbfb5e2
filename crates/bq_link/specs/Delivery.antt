-- The rule of the intake.
use Rattle.std.specs.Prelude.{ℕ, ◌≡◌, ◌<◌, ◌++◌, true, false, List, []}
use mathlib.Core.Option.{some}
use lib.ListN.{get_elem?}
use Rattle.bq_job.specs.declared.step.Step.{Step}
use Rattle.bq_link.specs.declared.ends.View.{View}
use Rattle.bq_link.specs.Submissions.{AreBelow, Covers, Invariant, steps_of}

-- what an end's thread knows: the steps that it submitted
abbrev pub seat_view : ℕ → List Step → View
seat_view number submitted = record {
  submits = true;
  takes = false;
  number = number;
  submitted = submitted;
  taken = [];
  told = [];
  made = 0;
}

-- what the core's thread knows: the steps that it took, the submissions that it knows of, and the
-- number of ends
abbrev pub core_view : List (ℕ × Step) → List (ℕ × List Step) → ℕ → View
core_view taken told made = record {
  submits = false;
  takes = true;
  number = 0;
  submitted = [];
  taken = taken;
  told = told;
  made = made;
}

-- nothing is known, and nothing is permitted
abbrev pub blank_view : View
blank_view = record (seat_view 0 []) { submits = false }

-- Only one pass submits under a number, which was given to it, and it knows all steps with that number.
abbrev pub IsSeatPass : ℕ → (ℕ → ℕ) → List (ℕ × Step) → ℕ → View → Type 0
IsSeatPass made owner history pass v = v.submits ≡ true
    → (v.number < made) × (owner v.number ≡ pass) × (steps_of v.number history ≡ v.submitted)

-- Only one pass takes. It knows how many numbers were given, and all steps that were taken.
abbrev pub IsCorePass : ℕ → ℕ → List (ℕ × Step) → List (ℕ × Step) → ℕ → View → Type 0
IsCorePass core made history taken pass v = v.takes ≡ true
    → (pass ≡ core) × (v.made ≡ made) × (v.taken ≡ taken) × Covers history v.told

abbrev pub IsPass : ℕ → ℕ → (ℕ → ℕ) → List (ℕ × Step) → List (ℕ × Step) → ℕ → View → Type 0
IsPass core made owner history taken pass v = IsSeatPass made owner history pass v × IsCorePass core made history taken pass v

-- the submitted steps are those that were taken and then those that wait, each under a number that was given, each pass knows its
-- part, and the intake's invariant holds
pub record Delivers (was : Invariant) (items : List (ℕ × Step)) (views : List View) : Type 0 where
  pub core : ℕ
  pub made : ℕ
  pub owner : ℕ → ℕ
  pub history : List (ℕ × Step)
  pub taken : List (ℕ × Step)
  pub whole : history ≡ taken ++ items
  pub real : was taken items
  pub below : AreBelow made history
  pub passes : (pass : ℕ) (v : View) → get_elem? views pass ≡ some v → IsPass core made owner history taken pass v

-- some steps were taken, and with those that wait, the end's steps are all that it submitted
abbrev pub WaitsOf : Invariant → View → List (ℕ × Step) → Type 0
WaitsOf was v items = (taken : List (ℕ × Step)) × was taken items × (steps_of v.number (taken ++ items) ≡ v.submitted)
