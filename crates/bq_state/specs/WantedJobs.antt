-- Which jobs waiting clients may have.
use Rattle.std.specs.{List.AllByRecursion, Prelude.{Bool, List, false, find, if◌then◌else◌, is_some, not, true, unwrap_or, ℕ, ◌&&◌, ◌==◌}}
use Rattle.std.specs.Prelude.{◌≡◌}
use Rattle.bq_job.specs.{declared.job.Job.Job, machine.{SeatRecord, TubeRecord, fresh_tube, is_ready, is_waiting, watches}}
use Rattle.bq_job.specs.reading.TubeName.{is_same_name}
use Rattle.bq_state.specs.declared.{known.wanted.Wanted.{TheVariants.{Any, Client, Nothing, Tube}, Wanted}, seats.SeatChange.SeatChange}
use Rattle.bq_state.specs.declared.{seats.SeatChange.TheVariants.Wait, tubes.entry.TubeChange.{TheVariants.Pause, TubeChange}}

-- the client at this seat may have a job of this tube
abbrev pub may_get : Wanted → List ℕ → ℕ → Bool
may_get Nothing tube seat = false
may_get (Tube wanted_tube) tube seat = is_same_name wanted_tube tube
may_get (Client waiter) tube seat = seat == waiter
may_get Any tube seat = true

abbrev pub is_nothing : Wanted → Bool
is_nothing Nothing = true
is_nothing _ = false

-- the jobs of this tube too
abbrev pub with_wanted : List ℕ → Wanted → Wanted
with_wanted name Nothing = Tube name
with_wanted name (Tube wanted_tube) = if is_same_name wanted_tube name then Tube name else Any
with_wanted name (Client waiter) = Any
with_wanted name Any = Any

-- Of the changes of a seat, one lets a client wait: then also the jobs for which it waits.
abbrev pub wanted_after_seat : ℕ → SeatChange → Wanted → Wanted
wanted_after_seat seat (Wait ticket until) Nothing = Client seat
wanted_after_seat seat (Wait ticket until) _ = Any
wanted_after_seat seat _ wanted = wanted

-- Of the changes of a tube, one may end a pause.
abbrev pub wanted_after_tube : List ℕ → TubeChange → Wanted → Wanted
wanted_after_tube name (Pause seconds moment) wanted = if seconds == 0 then with_wanted name wanted else wanted
wanted_after_tube name _ wanted = wanted

-- the tube is paused, according to the model's records
abbrev pub is_paused_by : List TubeRecord → List ℕ → Bool
is_paused_by tubes name = is_some (unwrap_or (find (λ t. is_same_name name t.name) tubes) (fresh_tube name)).pause

-- the client waits for the job
abbrev pub is_wanted_by : List TubeRecord → Job → SeatRecord → Bool
is_wanted_by tubes j s = is_waiting s && (is_ready j && watches j.tube s && not (is_paused_by tubes j.tube))

abbrev pub IsKnown : Wanted → List TubeRecord → Job → SeatRecord → Type 0
IsKnown wanted tubes j s = is_wanted_by tubes j s ≡ true → may_get wanted j.tube s.number ≡ true

-- If a client waits for a job, it is known that it may have it.
abbrev pub AreKnown : Wanted → List Job → List SeatRecord → List TubeRecord → Type 0
AreKnown wanted jobs seats tubes = AllByRecursion (λ j. AllByRecursion (IsKnown wanted tubes j) seats) jobs
