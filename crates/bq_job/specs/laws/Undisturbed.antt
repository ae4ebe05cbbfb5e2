-- Undisturbed jobs, and the order in which jobs are handed out.
use Rattle.std.specs.Prelude.{ℕ, Bool, false, ◌≡◌, ◌==◌, ◌&&◌, ◌||◌, not, IsTrue, List, [], ◌∷◌, Contains}
use Rattle.std.specs.List.{list_any}
use Rattle.bq_job.specs.declared.job.Job.{Job}
use Rattle.bq_job.specs.laws.Happenings.{Happening, put, handed_out, reserved_by_id, expired, released, buried, given_back, deleted}

-- The job is released, buried, lost by a close, reserved by reserve-job, or it expires.
abbrev pub disturbs : ℕ → Happening → Bool
disturbs id (released other) = other == id
disturbs id (buried other) = other == id
disturbs id (expired other) = other == id
disturbs id (given_back other) = other == id
disturbs id (reserved_by_id other) = other == id
disturbs id _ = false

-- The job's put is accepted with delay 0, and nothing disturbs the job.
pub record IsUndisturbed (j : Job) (happened : List Happening) : Type 0 where
  pub accepted : Contains happened (put j)
  pub at_once : j.delay ≡ 0
  pub undisturbed : IsTrue (not (list_any (disturbs j.id) happened))

abbrev pub is_put : ℕ → Happening → Bool
is_put id (put j) = j.id == id
is_put id _ = false

-- Dispatch hands the job out.
abbrev pub is_hand_out : ℕ → Happening → Bool
is_hand_out id (handed_out other) = other == id
is_hand_out id _ = false

abbrev pub is_deletion : ℕ → Happening → Bool
is_deletion id (deleted other) = other == id
is_deletion id _ = false

abbrev pub IsHandedOut : ℕ → List Happening → Type 0
IsHandedOut id happened = IsTrue (list_any (is_hand_out id) happened)

-- A happening that passes the first test occurs, and none that passes the second occurs before it.
abbrev pub comes_first : (Happening → Bool) → (Happening → Bool) → List Happening → Bool
comes_first one other [] = false
comes_first one other (h ∷ happened) = one h || (not (other h) && comes_first one other happened)

-- The job with the first id is put before the one with the second.
abbrev pub IsPutBefore : ℕ → ℕ → List Happening → Type 0
IsPutBefore id other happened = IsTrue (comes_first (is_put id) (is_put other) happened)

-- The job with the first id is handed out before the one with the second.
abbrev pub IsHandedOutBefore : ℕ → ℕ → List Happening → Type 0
IsHandedOutBefore id other happened = IsTrue (comes_first (is_hand_out id) (is_hand_out other) happened)
