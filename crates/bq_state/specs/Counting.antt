-- The counts of tubes are those of jobs and of seats.
use Rattle.std.specs.{List.AllByRecursion, Prelude.{List, None, Option, Some, filter, ◌≡◌}}
use Rattle.bq_job.specs.{declared.job.Job.Job, machine.SeatRecord}
use Rattle.bq_state.specs.{Crowds.{crowd_of, roles_as_user, roles_as_watcher}, Tallies.tally_in, TubeEntries.is_tube_of, TubesSeen.Named}
use Rattle.bq_state.specs.TubesSeen.{TubesSeen, entry_recounted, is_alive_at, with_entries, with_entry, without_gone}
use Rattle.bq_state.specs.declared.known.maybe_gone.MaybeGone.{MaybeGone, TheVariants.{Any, Nothing, Tube}}
use Rattle.bq_state.specs.declared.tubes.entry.{AddOrRemove.AddOrRemove, Roles.Roles}

-- the counts of an entry are those of the jobs,
abbrev pub IsTallied : List Job → Named → Type 0
IsTallied jobs e = e.1.tally ≡ tally_in jobs e.0

-- and of the seats
abbrev pub IsCounted : List Job → List SeatRecord → Named → Type 0
IsCounted jobs seats e = IsTallied jobs e × (e.1.crowd ≡ crowd_of seats e.0)

abbrev pub AreTallied : List Job → List Named → Type 0
AreTallied jobs es = AllByRecursion (IsTallied jobs) es

abbrev pub AreCounted : List Job → List SeatRecord → List Named → Type 0
AreCounted jobs seats es = AllByRecursion (IsCounted jobs seats) es

-- the entries of the tubes that exist
abbrev pub existing : List Job → List SeatRecord → List Named → List Named
existing jobs seats es = filter (λ e. is_tube_of jobs seats e.0) es

-- the entries without those of tubes that no longer exist, by their counts; only these tubes may have gone
abbrev pub forgotten : MaybeGone → List Named → List Named
forgotten Nothing es = es
forgotten (Tube gone) es = without_gone gone es
forgotten Any es = filter is_alive_at es

-- after the client of a seat, if there is one, was counted at its tubes, or no longer counted
abbrev pub recounted_for : AddOrRemove → Roles → Option SeatRecord → TubesSeen → TubesSeen
recounted_for how what None k = k
recounted_for how what (Some s) k =
    with_entries s.watched (entry_recounted how (roles_as_watcher what s))
    (with_entry s.used (entry_recounted how (roles_as_user what s)) k)
