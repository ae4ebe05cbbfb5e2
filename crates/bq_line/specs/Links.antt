-- What a seat's link does.
use Rattle.std.specs.Prelude.{◌≡◌, ◌⊎◌, Bool, true, false, List, [], ◌∷◌, ◌++◌, if◌then◌else◌}
use Rattle.bq_job.specs.declared.answer.Answer.{Answer}
use Rattle.bq_job.specs.declared.step.Step.{Step}
use Rattle.bq_job.specs.promise.History.{is_tick}
use Rattle.bq_seat.specs.declared.machine.Action.{Action}
use Rattle.bq_seat.specs.declared.machine.Action.TheVariants as actions

-- What a step of a seat submits: the step itself. A tick is not a step of a seat, and does not
-- count.
abbrev pub as_submitted : Step → List Step
as_submitted step = if is_tick step then [] else step ∷ []

-- The step was submitted, or it was not: then nothing was submitted, and the step is unchanged.
abbrev pub SubmitsInPlace : {K : Type 0} → (K → List Step → List Answer → K → Type 0) → K → Step → Bool → Step → K → Type 0
SubmitsInPlace trace old step true left new = trace old (as_submitted step) [] new
SubmitsInPlace trace old step false left new = (left ≡ step) × trace old [] [] new

-- An answer was taken, and the action is now to write it; or there was none, and the action is
-- unchanged.
abbrev pub TakesInPlace : {K : Type 0} → (K → List Step → List Answer → K → Type 0) → K → Action → Bool → Action → K → Type 0
TakesInPlace trace old action true next new = (answer : Answer) × (next ≡ actions.Write answer) × trace old [] (answer ∷ []) new
TakesInPlace trace old action false next new = (next ≡ action) × trace old [] [] new

-- Whatever went over the link before, nothing more went over it then.
abbrev pub TakesNone : {K : Type 0} → (K → List Step → List Answer → K → Type 0) → K → K → Type 0
TakesNone {K} trace old new = (first : K) (submitted : List Step) (taken : List Answer) → trace first submitted taken old
    → trace first submitted taken new

-- Whatever went over the link before, this answer was taken then.
abbrev pub TakesOne : {K : Type 0} → (K → List Step → List Answer → K → Type 0) → K → Answer → K → Type 0
TakesOne {K} trace old answer new = (first : K) (submitted : List Step) (taken : List Answer) → trace first submitted taken old
    → trace first submitted (taken ++ answer ∷ []) new

-- An answer was taken, and the action is now to write it; or there was none, and the action is
-- unchanged. This continues whatever went over the link before.
abbrev pub TakesFurther : {K : Type 0} → (K → List Step → List Answer → K → Type 0) → K → Action → Bool → Action → K → Type 0
TakesFurther trace old action true next new = (answer : Answer) × (next ≡ actions.Write answer) × TakesOne trace old answer new
TakesFurther trace old action false next new = (next ≡ action) × TakesNone trace old new

-- The seat submitted these steps and took these answers, or did not use the link.
abbrev pub Calls : {K : Type 0} → (K → List Step → List Answer → K → Type 0) → K → List Step → List Answer → K → Type 0
Calls trace old submitted taken new = trace old submitted taken new ⊎ ((new ≡ old) × (submitted ≡ []) × (taken ≡ []))
