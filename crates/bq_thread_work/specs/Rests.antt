-- How long the core's thread sleeps.
use Rattle.std.specs.Prelude.{ℕ, ◌-◌, ◌∷◌, [], List, min, Option, Some, None}
use Rattle.bq_job.specs.machine.Dispatch.{GivenAnswer}

-- The number of milliseconds from the latest moment until the next one at which something is due,
-- but at most an hour. It is one while answers are kept whose rings are full.
abbrev pub longest_rest : List GivenAnswer → Option ℕ → ℕ → ℕ
longest_rest [] None heard = 3600000
longest_rest [] (Some due) heard = min (due - heard) 3600000
longest_rest (_ ∷ _) due heard = 1
