-- The steps of one end, as the list of all steps grows.
use Rattle.std.proofs.Common.{◌≡◌, ◌≢◌, ℕ, ◌+◌, ◌<◌, List, [], ◌∷◌, ◌++◌, refl, arith, append_assoc}
use Rattle.std.proofs.lemmas.{Bool.Decides.nat_tests, Grind.common_steps}
use Rattle.std.proofs.lemmas.List.{append-nil, map-append}
use Rattle.std.proofs.lemmas.List.Elements.{filter-append}
use Rattle.bq_job.specs.declared.step.Step.{Step}
use Rattle.bq_job.proofs.ListLemmas.{all_of_append}
use Rattle.bq_link.specs.Submissions.{AreBelow, Covers, steps_of}

pub of_joined : (number : ℕ) (all more : List (ℕ × Step)) → steps_of number (all ++ more) ≡ steps_of number all ++ steps_of number more
of_joined number all more = grind (arith, common_steps, filter-append, map-append)

-- a step of this end
pub of_own : (number : ℕ) (step : Step) (all : List (ℕ × Step))
    → steps_of number (all ++ (number, step) ∷ []) ≡ steps_of number all ++ step ∷ []
of_own number step all = grind (arith, common_steps, of_joined)

-- a step of another end
pub of_other : (number from : ℕ) (step : Step) (all : List (ℕ × Step)) → from ≢ number
    → steps_of number (all ++ (from, step) ∷ []) ≡ steps_of number all
of_other number from step all other = grind (arith, common_steps, of_joined, nat_tests, append-nil)

-- an end with a number that has not been given has no steps
pub of_none : (number : ℕ) (all : List (ℕ × Step)) → AreBelow number all → steps_of number all ≡ []
of_none number [] below = refl
of_none number (t ∷ ts) below = grind (arith, common_steps, of_none number ts)

pub below_more : (ends : ℕ) (all : List (ℕ × Step)) → AreBelow ends all → AreBelow (ends + 1) all
below_more ends [] below = tt
below_more ends (t ∷ all) below = grind (arith, below_more ends all)

pub below_push : (ends : ℕ) (all : List (ℕ × Step)) (t : ℕ × Step) → AreBelow ends all → t.0 < ends → AreBelow ends (all ++ t ∷ [])
below_push ends all t below less = grind (arith, all_of_append)

pub below_at : (ends : ℕ) (all more : List (ℕ × Step)) (t : ℕ × Step) → AreBelow ends (all ++ t ∷ more) → t.0 < ends
below_at ends [] more t below = below.0
below_at ends (x ∷ xs) more t below = below_at ends xs more t below.1

pub covers_push : (all : List (ℕ × Step)) (t : ℕ × Step) (known : List (ℕ × List Step)) → Covers all known → Covers (all ++ t ∷ []) known
covers_push all t [] covers = tt
covers_push all t (k ∷ known) covers =
    let more = append_assoc k.1 covers.0.0 (steps_of k.0 (t ∷ [])) in
    grind (arith, common_steps, of_joined k.0 all (t ∷ []), covers_push all t known covers.1)
