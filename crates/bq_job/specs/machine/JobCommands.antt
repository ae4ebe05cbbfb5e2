-- The commands put, reserve, delete, release, bury, touch, kick and their kin.
use Rattle.std.specs.{List.list_any, Prelude.{◌&&◌, ◌++◌, ◌+◌, ◌-◌, ◌==◌, ◌^◌, ◌||◌, ◌∷◌, if◌then◌else◌, Bool, List}}
use Rattle.std.specs.Prelude.{None, Option, Some, [], ℕ, false, filter, length, map, max, nat_le, not, take}
use Rattle.bq_job.specs.declared.answer.Answer.TheVariants as answers
use Rattle.bq_job.specs.declared.job.JobState.TheVariants as states
use Rattle.bq_job.specs.machine.{Acts.{Effect, on_job, silent, telling}, Changes.{in_state, is_held_by, with_job}}
use Rattle.bq_job.specs.machine.{Changes.with_seat, Dispatch.reserved_by, JobStates.{is_buried, is_buried_before}}
use Rattle.bq_job.specs.machine.{JobStates.{is_delayed, is_due_before, is_reserved}, Limits.{later, raised}}
use Rattle.bq_job.specs.machine.{Machine.{Machine, SeatRecord, TubeRecord}, Tubes.with_tube}
use Rattle.bq_job.specs.{reading.TubeName.is_same_name, Types.{Counts, Job, JobState}}

-- The last id that is given out. The put that gets it makes the model drain, so the next id always
-- fits.
abbrev pub last_id : ℕ
last_id = 2 ^ 64 - 2

abbrev pub no_counts : Counts
no_counts = record { reserves = 0; timeouts = 0; releases = 0; buries = 0; kicks = 0 }

-- ready if there is no delay, otherwise delayed from this moment by `delay` seconds
abbrev pub delayed_by : ℕ → ℕ → JobState
delayed_by delay moment = if delay == 0 then states.Ready else states.Delayed (later moment delay)

-- the job that a put makes; a time to run of 0 counts as 1
abbrev pub new_job : Machine → SeatRecord → ℕ → ℕ → ℕ → List ℕ → Job
new_job m s pri delay ttr body = record {
  id = m.next_id;
  tube = s.used;
  pri = pri;
  delay = delay;
  ttr = max ttr 1;
  body = body;
  put_at = m.moment;
  counts = no_counts;
  state = delayed_by delay m.moment;
}

abbrev pub with_put : TubeRecord → TubeRecord
with_put t = record t { puts = raised t.puts }

abbrev pub after_put : Machine → Job → Machine
after_put m j = record (with_tube j.tube with_put m) {
  jobs = m.jobs ++ j ∷ [];
  next_id = m.next_id + 1;
  puts = raised m.puts;
  draining = m.draining || nat_le last_id m.next_id;
}

-- whether the job limit is reached; jobs count in every state
abbrev pub is_full : Option ℕ → List Job → Bool
is_full None jobs = false
is_full (Some most) jobs = nat_le most (length jobs)

-- a new job in the used tube, unless the model is draining or the job limit is reached
abbrev pub put_effect : ℕ → ℕ → ℕ → List ℕ → Machine → SeatRecord → Effect
put_effect pri delay ttr body m s =
    if m.draining then telling answers.Draining m
    else (if is_full m.settings.max_jobs m.jobs then telling answers.OutOfMemory m
    else telling (answers.Inserted m.next_id) (after_put m (new_job m s pri delay ttr body)))

abbrev pub waiting_from : ℕ → Option ℕ → SeatRecord → SeatRecord
waiting_from ticket until s = record s { wait = Some (record { ticket = ticket; until = until }) }

-- The client waits, with the next ticket. Dispatch or the end of its wait answers it.
abbrev pub reserve_effect : Option ℕ → Machine → SeatRecord → Effect
reserve_effect until m s =
    silent (record (with_seat s.number (waiting_from (raised m.tickets) until) m) { tickets = raised m.tickets })

-- a job that no client holds, in any tube, paused or not, watched or not
abbrev pub reserve_job_effect : ℕ → Machine → SeatRecord → Effect
reserve_job_effect id m s =
    on_job id (λ j. not (is_reserved j.state))
    (λ j. telling (answers.Reserved j.id j.body) (with_job id (reserved_by m.moment s.number) m)) m

-- a job that no client holds, or that this client holds
abbrev pub is_free_for : SeatRecord → Job → Bool
is_free_for s j = not (is_reserved j.state) || is_held_by s.number j

abbrev pub with_delete : TubeRecord → TubeRecord
with_delete t = record t { deletes = raised t.deletes }

abbrev pub after_delete : Machine → Job → Machine
after_delete m j = record (with_tube j.tube with_delete m) { jobs = filter (λ k. not (k.id == j.id)) m.jobs }

abbrev pub delete_effect : ℕ → Machine → SeatRecord → Effect
delete_effect id m s = on_job id (is_free_for s) (λ j. telling answers.Deleted (after_delete m j)) m

abbrev pub with_release : Counts → Counts
with_release counts = record counts { releases = raised counts.releases }

abbrev pub released : ℕ → ℕ → ℕ → Job → Job
released moment pri delay j =
    record j { pri = pri; delay = delay; state = delayed_by delay moment; counts = with_release j.counts }

-- a job that the client holds gets this priority and delay, and is ready or delayed
abbrev pub release_effect : ℕ → ℕ → ℕ → Machine → SeatRecord → Effect
release_effect id pri delay m s =
    on_job id (is_held_by s.number) (λ j. telling answers.Released (with_job id (released m.moment pri delay) m)) m

abbrev pub with_bury : Counts → Counts
with_bury counts = record counts { buries = raised counts.buries }

abbrev pub buried : ℕ → ℕ → Job → Job
buried number pri j = record j { pri = pri; state = states.Buried number; counts = with_bury j.counts }

-- a job that the client holds gets this priority, and is buried with the next burial number
abbrev pub bury_effect : ℕ → ℕ → Machine → SeatRecord → Effect
bury_effect id pri m s =
    on_job id (is_held_by s.number)
    (λ j. telling answers.Buried (record (with_job id (buried (raised m.burials) pri) m) { burials = raised m.burials })) m

-- the time to run of a job that the client holds starts anew
abbrev pub touch_effect : ℕ → Machine → SeatRecord → Effect
touch_effect id m s =
    on_job id (is_held_by s.number)
    (λ j. telling answers.Touched (with_job id (in_state (states.Reserved s.number (later m.moment j.ttr))) m)) m

abbrev pub with_kick : Counts → Counts
with_kick counts = record counts { kicks = raised counts.kicks }

abbrev pub kicked : Job → Job
kicked j = record j { state = states.Ready; counts = with_kick j.counts }

abbrev pub put_in_order : (Job → Job → Bool) → Job → List Job → List Job
put_in_order before j [] = j ∷ []
put_in_order before j (k ∷ ks) = if before k j then k ∷ put_in_order before j ks else j ∷ k ∷ ks

abbrev pub in_order : (Job → Job → Bool) → List Job → List Job
in_order before [] = []
in_order before (j ∷ js) = put_in_order before j (in_order before js)

abbrev pub is_buried_in : List ℕ → Job → Bool
is_buried_in tube j = is_buried j.state && is_same_name tube j.tube

abbrev pub is_delayed_in : List ℕ → Job → Bool
is_delayed_in tube j = is_delayed j.state && is_same_name tube j.tube

abbrev pub kicked_first : List ℕ → List Job → List Job → List Job
kicked_first tube jobs [] = in_order is_due_before (filter (is_delayed_in tube) jobs)
kicked_first tube jobs (j ∷ js) = in_order is_buried_before (j ∷ js)

-- The jobs of a tube that a kick would make ready, in order: the buried ones or, if there are none,
-- the delayed ones.
abbrev pub kickable : List ℕ → List Job → List Job
kickable tube jobs = kicked_first tube jobs (filter (is_buried_in tube) jobs)

abbrev pub after_kick : List Job → Machine → Machine
after_kick chosen m =
    record m { jobs = map (λ j. if list_any (λ k. k.id == j.id) chosen then kicked j else j) m.jobs }

abbrev pub kick_effect : ℕ → Machine → SeatRecord → Effect
kick_effect bound m s =
    let chosen = take bound (kickable s.used m.jobs) in telling (answers.KickedCount (length chosen)) (after_kick chosen m)

-- a buried or delayed job
abbrev pub kick_job_effect : ℕ → Machine → SeatRecord → Effect
kick_job_effect id m s =
    on_job id (λ j. is_buried j.state || is_delayed j.state) (λ j. telling answers.Kicked (with_job id kicked m)) m
