-- Statistics of a job, of a tube and of the server. They are counted anew over the lists of the
-- model, next to the counters that the model keeps.
use Rattle.std.specs.Prelude.{ℕ, Bool, true, false, ◌&&◌, ◌-◌, ◌/◌, nat_lt, Option, Some, None, List}
use Rattle.std.specs.Prelude.{[], ◌∷◌, ◌++◌, length, count_by, filter, codes}
use Rattle.bq_job.specs.machine.{Changes.{is_ready, is_waiting}, JobStates.{is_buried, is_delayed, is_reserved}}
use Rattle.bq_job.specs.{machine.Machine.{Machine, Pause}, reading.TubeName.is_same_name, Types.{Job, JobState}}
use Rattle.bq_job.specs.declared.job.JobState.TheVariants as states
pub use Rattle.bq_job.specs.machine.TubeOrder.{name_list, tubes}
use Rattle.bq_job.specs.{machine.Tubes.{tube_record, watches}, texts.Yaml.{KeyValue, key_number, statistics_text}}

-- whole seconds from one moment to a later one, rounded down; 0 if it is not later
abbrev pub seconds_between : ℕ → ℕ → ℕ
seconds_between earlier later = (later - earlier) / 1000

abbrev pub state_word : JobState → List ℕ
state_word states.Ready = codes "ready"
state_word (states.Delayed due) = codes "delayed"
state_word (states.Reserved seat deadline) = codes "reserved"
state_word (states.Buried burial) = codes "buried"

-- the seconds until a delay or a time to run ends, otherwise 0
abbrev pub time_left : ℕ → JobState → ℕ
time_left moment states.Ready = 0
time_left moment (states.Delayed due) = seconds_between moment due
time_left moment (states.Reserved seat deadline) = seconds_between moment deadline
time_left moment (states.Buried burial) = 0

abbrev pub job_statistics : Machine → Job → List ℕ
job_statistics m j = statistics_text (
    key_number (codes "id") j.id
    ∷ (codes "tube", j.tube)
    ∷ (codes "state", state_word j.state)
    ∷ key_number (codes "pri") j.pri
    ∷ key_number (codes "age") (seconds_between j.put_at m.moment)
    ∷ key_number (codes "delay") j.delay
    ∷ key_number (codes "ttr") j.ttr
    ∷ key_number (codes "time-left") (time_left m.moment j.state)
    ∷ key_number (codes "reserves") j.counts.reserves
    ∷ key_number (codes "timeouts") j.counts.timeouts
    ∷ key_number (codes "releases") j.counts.releases
    ∷ key_number (codes "buries") j.counts.buries
    ∷ key_number (codes "kicks") j.counts.kicks
    ∷ [])

-- An urgent job is a ready one with a priority below 1024; it counts as ready too.
abbrev pub is_urgent : Job → Bool
is_urgent j = is_ready j && nat_lt j.pri 1024

-- how many of the jobs are in each state
abbrev pub job_counts : List Job → List KeyValue
job_counts jobs =
    key_number (codes "current-jobs-urgent") (count_by is_urgent jobs)
    ∷ key_number (codes "current-jobs-ready") (count_by is_ready jobs)
    ∷ key_number (codes "current-jobs-reserved") (count_by (λ j. is_reserved j.state) jobs)
    ∷ key_number (codes "current-jobs-delayed") (count_by (λ j. is_delayed j.state) jobs)
    ∷ key_number (codes "current-jobs-buried") (count_by (λ j. is_buried j.state) jobs)
    ∷ []

-- the jobs in the tube
abbrev pub jobs_in : List ℕ → Machine → List Job
jobs_in name m = filter (λ j. is_same_name name j.tube) m.jobs

-- how many open seats use the tube, and how many watch it
abbrev pub using_count : List ℕ → Machine → ℕ
using_count name m = count_by (λ s. s.connected && is_same_name name s.used) m.seats

abbrev pub watching_count : List ℕ → Machine → ℕ
watching_count name m = count_by (λ s. s.connected && watches name s) m.seats

-- how many clients that watch the tube wait for a job
abbrev pub waiting_clients_of : List ℕ → Machine → ℕ
waiting_clients_of name m = count_by (λ s. is_waiting s && watches name s) m.seats

-- the seconds that were requested
abbrev pub pause_seconds : Option Pause → ℕ
pause_seconds None = 0
pause_seconds (Some pause) = pause.seconds

-- the seconds until the pause ends
abbrev pub pause_time_left : ℕ → Option Pause → ℕ
pause_time_left moment None = 0
pause_time_left moment (Some pause) = seconds_between moment pause.until

abbrev pub tube_statistics : List ℕ → Machine → List ℕ
tube_statistics name m = let kept = tube_record name m in statistics_text (
    ((codes "name", name) ∷ [])
    ++ job_counts (jobs_in name m)
    ++ (key_number (codes "total-jobs") kept.puts
    ∷ key_number (codes "current-using") (using_count name m)
    ∷ key_number (codes "current-watching") (watching_count name m)
    ∷ key_number (codes "current-waiting") (waiting_clients_of name m)
    ∷ key_number (codes "cmd-delete") kept.deletes
    ∷ key_number (codes "cmd-pause-tube") kept.pauses
    ∷ key_number (codes "pause") (pause_seconds kept.pause)
    ∷ key_number (codes "pause-time-left") (pause_time_left m.moment kept.pause)
    ∷ []))

abbrev pub bool_word : Bool → List ℕ
bool_word true = codes "true"
bool_word false = codes "false"

abbrev pub server_statistics : Machine → List ℕ
server_statistics m = statistics_text (
    job_counts m.jobs
    ++ (key_number (codes "job-timeouts") m.timeouts
    ∷ key_number (codes "total-jobs") m.puts
    ∷ key_number (codes "max-job-size") m.settings.max_job_size
    ∷ key_number (codes "current-tubes") (length (tubes m))
    ∷ key_number (codes "current-connections") (count_by (λ s. s.connected) m.seats)
    ∷ key_number (codes "current-waiting") (count_by is_waiting m.seats)
    ∷ key_number (codes "total-connections") m.connections
    ∷ (codes "draining", bool_word m.draining)
    ∷ []))
