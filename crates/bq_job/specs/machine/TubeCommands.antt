-- The commands that select tubes, pause them, and show jobs.
use Rattle.std.specs.Prelude.{ℕ, Bool, ◌&&◌, ◌==◌, not, if◌then◌else◌, Option, Some, None, List, [], ◌∷◌, ◌++◌, filter, length}
use Rattle.bq_job.specs.declared.answer.Answer.TheVariants as answers
use Rattle.bq_job.specs.{declared.job.Job.Job, machine.{Acts.{Effect, showing, telling}, Changes.{first_of, is_ready}}}
use Rattle.bq_job.specs.machine.{Changes.{job_with, with_seat}, Dispatch.is_job_before, JobCommands.is_buried_in}
use Rattle.bq_job.specs.machine.{JobCommands.is_delayed_in, JobStates.{is_buried_before, is_due_before}, Limits.later}
use Rattle.bq_job.specs.machine.{Limits.raised, Machine.{Machine, Pause, SeatRecord, TubeRecord}, Tubes.is_tube}
use Rattle.bq_job.specs.{machine.Tubes.{watches, with_tube}, reading.TubeName.is_same_name}

abbrev pub using : List ℕ → SeatRecord → SeatRecord
using tube s = record s { used = tube }

abbrev pub use_effect : List ℕ → Machine → SeatRecord → Effect
use_effect tube m s = telling (answers.Using tube) (with_seat s.number (using tube) m)

abbrev pub watching : List (List ℕ) → SeatRecord → SeatRecord
watching tubes s = record s { watched = tubes }

-- the watched tubes and this one
abbrev pub watched_with : List ℕ → SeatRecord → List (List ℕ)
watched_with tube s = if watches tube s then s.watched else s.watched ++ tube ∷ []

abbrev pub watch_effect : List ℕ → Machine → SeatRecord → Effect
watch_effect tube m s =
    let tubes = watched_with tube s in telling (answers.Watching (length tubes)) (with_seat s.number (watching tubes) m)

abbrev pub watching_or_refused : List (List ℕ) → Machine → SeatRecord → Effect
watching_or_refused [] m s = telling answers.NotIgnored m
watching_or_refused (tube ∷ tubes) m s =
    telling (answers.Watching (length (tube ∷ tubes))) (with_seat s.number (watching (tube ∷ tubes)) m)

-- The tube is no longer watched, unless it is the only one.
abbrev pub ignore_effect : List ℕ → Machine → SeatRecord → Effect
ignore_effect tube m s = watching_or_refused (filter (λ name. not (is_same_name tube name)) s.watched) m s

abbrev pub peek_effect : ℕ → Machine → Effect
peek_effect id m = showing m (job_with id m.jobs)

abbrev pub is_ready_in : List ℕ → Job → Bool
is_ready_in tube j = is_ready j && is_same_name tube j.tube

-- the least ready job of the used tube, paused or not
abbrev pub peek_ready_effect : Machine → SeatRecord → Effect
peek_ready_effect m s = showing m (first_of (is_ready_in s.used) is_job_before m.jobs)

abbrev pub peek_delayed_effect : Machine → SeatRecord → Effect
peek_delayed_effect m s = showing m (first_of (is_delayed_in s.used) is_due_before m.jobs)

abbrev pub peek_buried_effect : Machine → SeatRecord → Effect
peek_buried_effect m s = showing m (first_of (is_buried_in s.used) is_buried_before m.jobs)

-- 0 seconds mean no pause
abbrev pub pause_of : ℕ → ℕ → Option Pause
pause_of seconds moment =
    if seconds == 0 then None else Some (record { seconds = seconds; until = later moment seconds })

abbrev pub with_pause : ℕ → ℕ → TubeRecord → TubeRecord
with_pause seconds moment t = record t { pause = pause_of seconds moment; pauses = raised t.pauses }

-- A pause replaces an older one.
abbrev pub pause_effect : List ℕ → ℕ → Machine → Effect
pause_effect tube seconds m =
    if is_tube tube m then telling answers.Paused (with_tube tube (with_pause seconds m.moment) m) else telling answers.NotFound m
