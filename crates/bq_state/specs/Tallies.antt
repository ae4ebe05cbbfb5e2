-- How many of the jobs are in each state.
use Rattle.std.specs.Prelude.{Bool, List, count_by, false, filter, nat_lt, true, ℕ, ◌&&◌, ◌-◌, ◌||◌}
use Rattle.bq_job.specs.{declared.job.Job.Job, machine.{is_buried, is_delayed, is_ready, is_ready_state, is_reserved, is_urgent, raised}}
use Rattle.bq_job.specs.reading.TubeName.{is_same_name}
use Rattle.bq_jobs.specs.{Changed.pri_and_state, declared.numbered_jobs.{JobMove.JobMove, PriAndState.PriAndState}}
use Rattle.bq_state.specs.declared.known.tally.Tally.{Tally}

abbrev pub tally_of : List Job → Tally
tally_of jobs = record {
  urgent = count_by is_urgent jobs;
  ready = count_by is_ready jobs;
  reserved = count_by (λ j. is_reserved j.state) jobs;
  delayed = count_by (λ j. is_delayed j.state) jobs;
  buried = count_by (λ j. is_buried j.state) jobs;
}

-- one more if it is counted
abbrev pub count_with : Bool → ℕ → ℕ
count_with true n = raised n
count_with false n = n

-- one less if it was counted
abbrev pub count_without : Bool → ℕ → ℕ
count_without true n = n - 1
count_without false n = n

-- the counts including a job in this state
abbrev pub tally_entered : PriAndState → Tally → Tally
tally_entered at t = record {
  urgent = count_with (is_ready_state at.state && nat_lt at.pri 1024) t.urgent;
  ready = count_with (is_ready_state at.state) t.ready;
  reserved = count_with (is_reserved at.state) t.reserved;
  delayed = count_with (is_delayed at.state) t.delayed;
  buried = count_with (is_buried at.state) t.buried;
}

-- the counts without a job in this state
abbrev pub tally_left : PriAndState → Tally → Tally
tally_left at t = record {
  urgent = count_without (is_ready_state at.state && nat_lt at.pri 1024) t.urgent;
  ready = count_without (is_ready_state at.state) t.ready;
  reserved = count_without (is_reserved at.state) t.reserved;
  delayed = count_without (is_delayed at.state) t.delayed;
  buried = count_without (is_buried at.state) t.buried;
}

-- the counts after a job changed its state
abbrev pub tally_moved : JobMove → Tally → Tally
tally_moved m t = tally_entered m.to (tally_left m.from t)

-- the counts including a job
abbrev pub tally_with : Job → Tally → Tally
tally_with j t = tally_entered (pri_and_state j) t

-- the counts of the jobs of the tube with this name
abbrev pub tally_in : List Job → List ℕ → Tally
tally_in jobs name = tally_of (filter (λ j. is_same_name name j.tube) jobs)

-- whether a job is counted
abbrev pub has_jobs : Tally → Bool
has_jobs t = nat_lt 0 t.ready || (nat_lt 0 t.reserved || (nat_lt 0 t.delayed || nat_lt 0 t.buried))
