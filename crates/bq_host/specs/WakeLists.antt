-- The seats that have mail and were not woken for it yet.
use Rattle.std.specs.Prelude.{ℕ, ◌≡◌, ◌≤◌, ◌<◌, ◌==◌, ◌&&◌, ◌⊎◌, nat_lt, List, [], ◌∷◌, ◌++◌, if◌then◌else◌, slice_index_or}
use Rattle.bq_job.specs.declared.answer.Answer.{Answer}
use Rattle.bq_host.specs.Marks.{times}

pub record WakeList : Type 0 where
  -- how many seats there are
  pub seats : ℕ
  -- the seats to be woken, in the order in which they will be
  pub waiting : List ℕ

abbrev pub none_waits : ℕ → WakeList
none_waits seats = record { seats = seats; waiting = [] }

-- A seat that exists and does not wait yet is the last one to be woken.
abbrev pub to_wake : ℕ → WakeList → WakeList
to_wake seat w = if nat_lt seat w.seats && (times seat w.waiting == 0) then record w { waiting = w.waiting ++ seat ∷ [] } else w

-- Each seat whose mail was empty has none now either, or is to be woken. No seat was taken off the
-- list.
pub record Wakes (old_mails mails : List (List Answer)) (old new : WakeList) : Type 0 where
  pub seats : new.seats ≡ old.seats
  pub kept : (seat : ℕ) → times seat old.waiting ≤ times seat new.waiting
  pub mail : (seat : ℕ) → seat < old.seats → slice_index_or old_mails seat [] ≡ []
      → (slice_index_or mails seat [] ≡ []) ⊎ (0 < times seat new.waiting)
