-- The earliest of moments, if there are any.
use Rattle.std.specs.{Option.option_map, Prelude.{Bool, List, None, Option, Some, false, fold, if◌then◌else◌, nat_le, ℕ}}
use Rattle.std.specs.Prelude.{◌-◌}
use Rattle.bq_job.specs.{beside.{dues_of_pause, dues_of_wait, earlier, earliest}, declared.job.Job.Job, machine.{SeatRecord, TubeRecord}}
use Rattle.bq_job.specs.machine.{due_of, first_of, is_delayed, is_due_before, is_held_by, is_reserved, is_waiting}
use Rattle.bq_jobs.specs.Leases.{deadline_of, is_lease_before}

abbrev pub earlier_of_both : Option ℕ → Option ℕ → Option ℕ
earlier_of_both None other = other
earlier_of_both (Some due) other = Some (earlier due other)

-- one second before the first deadline of the jobs that a waiting client holds
abbrev pub warning_due : List Job → SeatRecord → Option ℕ
warning_due jobs s =
    if is_waiting s then option_map (λ j. deadline_of j.state - 1000) (first_of (is_held_by s.number) is_lease_before jobs) else None

-- the same for the client at a seat, if there is one
abbrev pub warning_due_at : List Job → Option SeatRecord → Option ℕ
warning_due_at jobs None = None
warning_due_at jobs (Some s) = warning_due jobs s

-- the earliest so far, including this seat or this tube
abbrev pub with_warning_due : List Job → Option ℕ → SeatRecord → Option ℕ
with_warning_due jobs best s = earlier_of_both best (warning_due jobs s)

abbrev pub with_tube_due : Option ℕ → TubeRecord → Option ℕ
with_tube_due best t = earlier_of_both best (earliest (dues_of_pause t.pause))

-- when the first of the pauses of these tubes ends
abbrev pub first_pause_end : List TubeRecord → Option ℕ
first_pause_end entries = fold with_tube_due None entries

-- there is a pause that ends then, and it is due
abbrev pub is_end_over : ℕ → Option ℕ → Bool
is_end_over moment None = false
is_end_over moment (Some end) = nat_le end moment

abbrev pub with_seat_due : Option ℕ → SeatRecord → Option ℕ
with_seat_due best s = earlier_of_both best (earliest (dues_of_wait s.wait))

-- the first due moment, or the first deadline
abbrev pub timers_due : List Job → Option ℕ
timers_due jobs =
    earlier_of_both
    (option_map (λ j. due_of j.state) (first_of (λ j. is_delayed j.state) is_due_before jobs))
    (option_map (λ j. deadline_of j.state) (first_of (λ j. is_reserved j.state) is_lease_before jobs))

-- the earliest of these, or one second before it
abbrev pub jobs_due : List Job → List SeatRecord → Option ℕ
jobs_due jobs seats = earlier_of_both (timers_due jobs) (fold (with_warning_due jobs) None seats)
