-- How many connections come at a door in total.
use Rattle.std.specs.Prelude.{ℕ, ◌+◌, Bool, List, length, Option, Some, None, if◌then◌else◌}
use Rattle.bq_job.specs.promise.History.{LineOver}

-- Those still to come, the open one, and those that have ended; no limit if those to come have
-- none.
abbrev pub in_all : Option ℕ → Bool → List LineOver → Option ℕ
in_all None is_out over = None
in_all (Some left) is_out over = Some (left + ((if is_out then 1 else 0) + length over))
