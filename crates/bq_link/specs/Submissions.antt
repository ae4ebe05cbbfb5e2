-- Steps, each with the number of the end that submitted it.
use Rattle.std.specs.Prelude.{ℕ, ◌≡◌, ◌<◌, ◌++◌, ◌==◌, List, [], ◌∷◌, length, map}
use Rattle.std.specs.List.{AllByRecursion, filter}
use Rattle.bq_job.specs.declared.step.Step.{Step}

-- the steps of one end among them, in their order
abbrev pub steps_of : ℕ → List (ℕ × Step) → List Step
steps_of number all = map (λ t. t.1) (filter (λ t. t.0 == number) all)

-- the lists begin with the steps that each of these ends is known to have submitted
abbrev pub Covers : List (ℕ × Step) → List (ℕ × List Step) → Type 0
Covers all known = AllByRecursion (λ k. (more : List Step) × (steps_of k.0 all ≡ k.1 ++ more)) known

-- they came from ends with a number below this one
abbrev pub AreBelow : ℕ → List (ℕ × Step) → Type 0
AreBelow ends all = AllByRecursion (λ t. t.0 < ends) all

-- an invariant of an intake: a property of the steps taken so far and of those that wait
abbrev pub Invariant : Type 1
Invariant = List (ℕ × Step) → List (ℕ × Step) → Type 0

-- it still holds after this step is appended to an intake that isn't full
abbrev pub MaySubmit : Invariant → ℕ → ℕ → Step → Type 0
MaySubmit was places number step = (taken waiting : List (ℕ × Step))
    → length waiting < places → was taken waiting → was taken (waiting ++ (number, step) ∷ [])

-- it still holds after the oldest step is removed
abbrev pub MayTake : Invariant → Type 0
MayTake was = (taken waiting : List (ℕ × Step)) (t : ℕ × Step) → was taken (t ∷ waiting) → was (taken ++ t ∷ []) waiting
