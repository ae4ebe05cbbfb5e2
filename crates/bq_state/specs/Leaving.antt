-- Which tubes may have gone after a client leaves them.
use Rattle.std.specs.Prelude.{Bool, List, None, Option, Some, [], fold, if◌then◌else◌, ℕ, ◌++◌, ◌∷◌}
use Rattle.bq_job.specs.machine.{SeatRecord}
use Rattle.bq_state.specs.{Crowds.has_seats, MaybeGoneTubes.with_gone, Tallies.has_jobs, TubeEntries.is_tube_by, TubesSeen.TubesSeen}
use Rattle.bq_state.specs.{TubesSeen.{crowd_by, entry_at, tally_by}, declared.known.maybe_gone.MaybeGone.MaybeGone}
use Rattle.bq_state.specs.declared.tubes.entry.Roles.{Roles}

-- the tube exists, according to its counts
abbrev pub exists_in : TubesSeen → List ℕ → Bool
exists_in k name = is_tube_by (has_jobs (tally_by (entry_at name k))) (has_seats (crowd_by (entry_at name k))) name

-- one more tube may have gone, unless it exists
abbrev pub gone_unless : Bool → List ℕ → MaybeGone → MaybeGone
gone_unless there name maybe = if there then maybe else with_gone name maybe

abbrev pub gone_all : TubesSeen → List (List ℕ) → MaybeGone → MaybeGone
gone_all k names maybe = fold (λ l name. gone_unless (exists_in k name) name l) maybe names

-- the tubes that a seat used and watched, if what can be affected is left
abbrev pub left_names : Roles → SeatRecord → List (List ℕ)
left_names what s = (if what.using then s.used ∷ [] else []) ++ (if what.watching then s.watched else [])

abbrev pub gone_of : Roles → TubesSeen → Option SeatRecord → MaybeGone → MaybeGone
gone_of what k None maybe = maybe
gone_of what k (Some s) maybe = gone_all k (left_names what s) maybe
