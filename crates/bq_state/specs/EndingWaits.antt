-- Which waits end.
use Rattle.std.specs.{List.{AllByRecursion, list_any}, Prelude.{Bool, None, Option, Some, count_by, false, if◌then◌else◌, nat_le, true, ℕ}}
use Rattle.std.specs.Prelude.{◌&&◌, ◌+◌, ◌-◌, ◌||◌, ◌≡◌}
use Rattle.bq_job.specs.{declared.{answer.Answer.Answer, job.Job.Job}, machine.{SeatRecord, ends_waiting, is_deadline_soon, is_pair_before}}
use Rattle.bq_job.specs.machine.{Machine.Machine, is_reserved, is_timed_out, is_timed_out_at, is_waiting, ticket_of}
use Rattle.bq_jobs.specs.Leases.{deadline_of}
use Rattle.bq_job.specs.declared.answer.Answer.TheVariants as answers

-- a reservation whose time to run ends within a second
abbrev pub is_lease_short : ℕ → Job → Bool
is_lease_short moment j = is_reserved j.state && nat_le (deadline_of j.state) (moment + 1000)

-- a moment was found, and comes within a second
abbrev pub is_soon : ℕ → Option (ℕ × ℕ) → Bool
is_soon moment None = false
is_soon moment (Some rank) = nat_le (rank.0 - 1000) moment

-- a client whose wait has timed out, or which sends no more
abbrev pub has_waited : ℕ → SeatRecord → Bool
has_waited moment s = is_waiting s && is_timed_out_at moment s

-- a wait may end now: a client waits, and some wait has timed out or some time to run ends within a
-- second
abbrev pub may_end : Machine → Bool
may_end m =
    list_any is_waiting m.seats && (list_any (has_waited m.moment) m.seats || list_any (is_lease_short m.moment) m.jobs)

-- the client as a waiter: its ticket, and then its seat
abbrev pub waiter_of : SeatRecord → ℕ × ℕ
waiter_of s = (ticket_of s.wait, s.number)

-- the client comes after this waiter, if there is one
abbrev pub is_after : Option (ℕ × ℕ) → SeatRecord → Bool
is_after None s = true
is_after (Some last) s = is_pair_before last.0 last.1 (ticket_of s.wait) s.number

abbrev pub waits_after : Option (ℕ × ℕ) → SeatRecord → Bool
waits_after last s = is_waiting s && is_after last s

-- how many clients wait that come after this waiter
abbrev pub left_after : Option (ℕ × ℕ) → Machine → ℕ
left_after last m = count_by (waits_after last) m.seats

-- All waiting clients up to this one were checked: a client whose wait ends now comes after it.
abbrev pub AreChecked : Machine → Option (ℕ × ℕ) → Type 0
AreChecked m last = AllByRecursion (λ s. ends_waiting m s ≡ true → is_after last s ≡ true) m.seats

-- the answer to a waiting client if its wait ends now
abbrev pub told_at_end : Machine → SeatRecord → Option Answer
told_at_end m s =
    if is_deadline_soon m s then Some answers.DeadlineSoon else (if is_timed_out m s then Some answers.TimedOut else None)
