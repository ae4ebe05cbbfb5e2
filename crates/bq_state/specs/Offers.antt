-- The job that is handed out first, of those that waiting clients may have, found tube by tube.
use Rattle.std.specs.{List.list_any, Option.option_map, Prelude.{Bool, List, None, Option, Some, [], fold, if◌then◌else◌, is_some, nat_lt}}
use Rattle.std.specs.Prelude.{ℕ, ◌&&◌, ◌∷◌}
use Rattle.bq_job.specs.{declared.job.Job.Job, machine.{SeatRecord, TubeRecord, first_of, is_job_before, is_pair_before, is_ready_in}}
use Rattle.bq_job.specs.{machine.{Machine.Machine, is_waiting, next_job}, reading.TubeName.is_same_name}
use Rattle.bq_jobs.specs.JobsSeen.{ranked}
use Rattle.bq_state.specs.TubesSeen.{TubesSeen, crowd_by, entry_at}

abbrev pub earlier_of_ranks : ℕ × ℕ → ℕ × ℕ → Option (ℕ × ℕ)
earlier_of_ranks best other = if is_pair_before other.0 other.1 best.0 best.1 then Some other else Some best

-- the one of two ready jobs, given by priority and id, that goes first
abbrev pub better_rank : Option (ℕ × ℕ) → Option (ℕ × ℕ) → Option (ℕ × ℕ)
better_rank None other = other
better_rank (Some best) None = Some best
better_rank (Some best) (Some other) = earlier_of_ranks best other

abbrev pub is_paused_among : List TubeRecord → List ℕ → Bool
is_paused_among entries name = list_any (λ t. is_same_name name t.name && is_some t.pause) entries

-- the most urgent ready job of the tube, unless it is paused
abbrev pub offered : List Job → List TubeRecord → List ℕ → Option (ℕ × ℕ)
offered jobs entries name =
    if is_paused_among entries name then None else option_map (ranked (λ j. j.pri)) (first_of (is_ready_in name) is_job_before jobs)

-- the best so far, including this tube
abbrev pub with_offer : List Job → List TubeRecord → Option (ℕ × ℕ) → List ℕ → Option (ℕ × ℕ)
with_offer jobs entries best name = better_rank best (offered jobs entries name)

-- the best so far, including the tubes for whose jobs the client waits
abbrev pub with_offers : List Job → List TubeRecord → Option (ℕ × ℕ) → SeatRecord → Option (ℕ × ℕ)
with_offers jobs entries best s = if is_waiting s then fold (with_offer jobs entries) best s.watched else best

-- a client waits for jobs of the tube
abbrev pub waits_at : List ℕ → SeatRecord → Bool
waits_at tube s = is_waiting s && list_any (is_same_name tube) s.watched

-- the job that is handed out next, by its priority and its id
abbrev pub next_rank : Machine → Option (ℕ × ℕ)
next_rank m = option_map (ranked (λ j. j.pri)) (next_job m)

-- only this client, if there is one
abbrev pub these : Option SeatRecord → List SeatRecord
these None = []
these (Some s) = s ∷ []

-- a client that waits for jobs of the tube is counted
abbrev pub is_waited_at : List ℕ → TubesSeen → Bool
is_waited_at name tubes = nat_lt 0 (crowd_by (entry_at name tubes)).waiting
