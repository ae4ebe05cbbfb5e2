-- Which entries may be of tubes that have gone.
use Rattle.std.specs.{List.AllByRecursion, Prelude.{◌||◌, ◌≡◌, if◌then◌else◌, Bool, List, ℕ, false, true}}
use Rattle.bq_job.specs.{declared.job.Job.Job, machine.{SeatRecord, TubeRecord}, reading.TubeName.is_same_name}
use Rattle.bq_state.specs.{declared.known.maybe_gone.MaybeGone.{MaybeGone, TheVariants.{Any, Nothing, Tube}}, TubeEntries.is_tube_of}

-- no tube may have gone
abbrev pub is_nothing : MaybeGone → Bool
is_nothing Nothing = true
is_nothing _ = false

-- the tube with this name may have gone
abbrev pub may_be_gone : MaybeGone → List ℕ → Bool
may_be_gone Nothing name = false
may_be_gone (Tube gone) name = is_same_name gone name
may_be_gone Any name = true

-- one more tube may have gone
abbrev pub with_gone : List ℕ → MaybeGone → MaybeGone
with_gone name Nothing = Tube name
with_gone name (Tube gone) = if is_same_name gone name then Tube name else Any
with_gone name Any = Any

-- the tube exists
abbrev pub with_existing : List ℕ → MaybeGone → MaybeGone
with_existing name Nothing = Nothing
with_existing name (Tube gone) = if is_same_name gone name then Nothing else Tube gone
with_existing name Any = Any

-- the tube exists, or may have gone
abbrev pub is_accounted : MaybeGone → List Job → List SeatRecord → List ℕ → Bool
is_accounted maybe jobs seats name = is_tube_of jobs seats name || may_be_gone maybe name

-- Each entry is of a tube that exists, or that may have gone.
abbrev pub AreAlive : MaybeGone → List Job → List SeatRecord → List TubeRecord → Type 0
AreAlive maybe jobs seats entries = AllByRecursion (λ t. is_accounted maybe jobs seats t.name ≡ true) entries
