-- How much room for more jobs is kept.
use Rattle.std.specs.Prelude.{◌-◌, if◌then◌else◌, ℕ, nat_le, nat_lt}

-- the room, for this many jobs, after that of one was returned if there was room for more jobs than there are
abbrev pub room_given_back : ℕ → ℕ → ℕ
room_given_back jobs room = if nat_lt jobs room then room - 1 else room

-- the room, for this many jobs, after that of one was returned if there is plenty
abbrev pub room_left : ℕ → ℕ → ℕ
room_left jobs room = if nat_le 1000 (room - jobs) then room - 1 else room
