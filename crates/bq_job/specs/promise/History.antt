-- One history of all clients' steps.
use Rattle.std.specs.Prelude.{ℕ, Bool, true, false, ◌≡◌, ◌⊎◌, ◌==◌, not, max, List, [], ◌∷◌, map, filter, Option, Some, None}
use Rattle.bq_job.specs.{promise.{LineSteps.LineSeen, Runs.Entry}, Types.{LineEnd, Step}}
use Rattle.bq_job.specs.declared.step.Step.TheVariants as steps

-- a connection that has ended, and how it ended
pub record LineOver : Type 0 where
  pub seen : LineSeen
  pub over : LineEnd

abbrev pub is_tick : Step → Bool
is_tick steps.Tick = true
is_tick _ = false

-- the history without the ticks, which the core takes by itself
abbrev pub without_ticks : List Entry → List Entry
without_ticks history = filter (λ e. not (is_tick e.what)) history

-- the steps at a seat
abbrev pub steps_at : ℕ → List Entry → List Step
steps_at seat history = map (λ e. e.what) (filter (λ e. e.seat == seat) (without_ticks history))

-- The moment that a clock reading yields after `last`: a failed reading, or one below `last`,
-- counts as `last`.
abbrev pub moment_heard : ℕ → Option ℕ → ℕ
moment_heard last None = last
moment_heard last (Some moment) = max last moment

-- the moments that the readings yield, and the one after all of them
abbrev pub moments_heard : ℕ → List (Option ℕ) → List ℕ
moments_heard last [] = []
moments_heard last (reading ∷ readings) = moment_heard last reading ∷ moments_heard (moment_heard last reading) readings

abbrev pub last_heard : ℕ → List (Option ℕ) → ℕ
last_heard last [] = last
last_heard last (reading ∷ readings) = last_heard (moment_heard last reading) readings

-- some of the moments, in order
abbrev pub ArePickedFrom : List ℕ → List ℕ → Type 0
ArePickedFrom [] moments = Unit {0}
ArePickedFrom (picked ∷ more) [] = ⊥
ArePickedFrom (picked ∷ more) (moment ∷ moments) =
    ((picked ≡ moment) × ArePickedFrom more moments) ⊎ ArePickedFrom (picked ∷ more) moments

-- If `heard` is the moment of the reading before these, each entry of the history has a reading of
-- its own, in order, and `last` is the moment of the last reading. So moments never decrease; a
-- reading may yield no step.
pub record IsTimedFrom (heard : ℕ) (readings : List (Option ℕ)) (history : List Entry) (last : ℕ) : Type 0 where
  pub picked : ArePickedFrom (map (λ e. e.moment) history) (moments_heard heard readings)
  pub last_is : last ≡ last_heard heard readings

-- the history is timed by a clock from its first reading on
abbrev pub IsTimedBy : List (Option ℕ) → List Entry → Type 0
IsTimedBy readings history = ArePickedFrom (map (λ e. e.moment) history) (moments_heard 0 readings)
