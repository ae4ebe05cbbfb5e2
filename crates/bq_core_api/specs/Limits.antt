-- The settings that a core accepts.
use Rattle.std.specs.Prelude.{ℕ, Bool, true, ◌&&◌, nat_le, Option, Some, None}
use Rattle.bq_job.specs.declared.limits.TheConstants.{LARGEST_BODY, MOST_SEATS}
use Rattle.bq_job.specs.declared.settings.Settings.{Settings}

abbrev pub is_seat_count : ℕ → Bool
is_seat_count seats = nat_le 1 seats && nat_le seats MOST_SEATS

abbrev pub is_body_size : ℕ → Bool
is_body_size bytes = nat_le 1 bytes && nat_le bytes LARGEST_BODY

-- no job limit, or one of at least 1
abbrev pub is_job_limit : Option ℕ → Bool
is_job_limit None = true
is_job_limit (Some most) = nat_le 1 most

-- Each setting is in its range.
abbrev pub are_in_range : Settings → Bool
are_in_range s = is_seat_count s.seats && is_body_size s.max_job_size && is_job_limit s.max_jobs
