-- A script of readings, and the place in it.
use Rattle.std.specs.Prelude.{ℕ, ◌≡◌, ◌≤◌, ◌+◌, ◌-◌, ◌⊎◌, List, ◌++◌, length, take, drop, replicate, Option, None, unwrap_or, slice_get}

pub record ScriptPlace : Type 0 where
  pub script : List (Option ℕ)
  pub place : ℕ

-- the last reading; None for an empty script
abbrev pub last_reading : List (Option ℕ) → Option ℕ
last_reading script = unwrap_or (slice_get script (length script - 1)) None

-- The readings that were given: those from the place before to the place after and then, only at
-- the end of the script, the last one any number of times.
pub record IsRead (before : ScriptPlace) (readings : List (Option ℕ)) (after : ScriptPlace) : Type 0 where
  pub count : ℕ
  pub again : ℕ
  pub script_is : after.script ≡ before.script
  pub within : count ≤ length (drop before.place before.script)
  pub place_is : after.place ≡ before.place + count
  pub readings_are : readings ≡ take count (drop before.place before.script) ++ replicate again (last_reading before.script)
  pub at_end : (again ≡ 0) ⊎ (length after.script ≤ after.place)
