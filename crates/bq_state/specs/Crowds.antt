-- How many clients are at a tube.
use Rattle.std.specs.Prelude.{Bool, List, Option, count_by, false, nat_lt, not, true, ℕ, ◌&&◌, ◌||◌, ◌≡◌}
use Rattle.bq_job.specs.{beside.none_twice, machine.{SeatRecord, is_waiting, watches}, reading.TubeName.is_same_name}
use Rattle.bq_state.specs.{SeatStates.is_connected, Tallies.{count_with, count_without}, declared.seats.SeatChange.SeatChange}
use Rattle.bq_state.specs.declared.seats.SeatChange.TheVariants.{Clear, Connect, End, StopWaiting, Use, Wait}
use Rattle.bq_state.specs.declared.tubes.entry.{AddOrRemove.{AddOrRemove, TheVariants.{Add, Remove}}, Crowd.Crowd, Roles.Roles}

-- a connected client uses the tube, watches it, or waits for its jobs
abbrev pub is_user : List ℕ → SeatRecord → Bool
is_user name s = s.connected && is_same_name name s.used

abbrev pub is_watcher : List ℕ → SeatRecord → Bool
is_watcher name s = s.connected && watches name s

abbrev pub is_waiter : List ℕ → SeatRecord → Bool
is_waiter name s = is_waiting s && watches name s

-- the counts of a tube
abbrev pub crowd_of : List SeatRecord → List ℕ → Crowd
crowd_of seats name = record {
  using = count_by (is_user name) seats;
  watching = count_by (is_watcher name) seats;
  waiting = count_by (is_waiter name) seats;
}

abbrev pub is_none : Roles → Bool
is_none roles = not roles.using && (not roles.watching && not roles.waiting)

-- the counts with a client of these roles
abbrev pub crowd_with : Roles → Crowd → Crowd
crowd_with roles c = record {
  using = count_with roles.using c.using;
  watching = count_with roles.watching c.watching;
  waiting = count_with roles.waiting c.waiting;
}

-- the counts without a client of these roles
abbrev pub crowd_without : Roles → Crowd → Crowd
crowd_without roles c = record {
  using = count_without roles.using c.using;
  watching = count_without roles.watching c.watching;
  waiting = count_without roles.waiting c.waiting;
}

-- the counts after a client was counted, or no longer counted
abbrev pub recounted : AddOrRemove → Roles → Crowd → Crowd
recounted Add roles c = crowd_with roles c
recounted Remove roles c = crowd_without roles c

-- a client uses or watches the tube
abbrev pub has_seats : Crowd → Bool
has_seats c = nat_lt 0 c.using || nat_lt 0 c.watching

-- the counts of the default tube at first, and of a tube that gets an entry
abbrev pub no_crowd : Crowd
no_crowd = record { using = 0; watching = 0; waiting = 0 }

-- the roles that a change of a seat can affect
abbrev pub touched : SeatChange → Roles
touched StopWaiting = record { using = false; watching = false; waiting = true }
touched (Wait ticket until) = record { using = false; watching = false; waiting = true }
touched Connect = record { using = true; watching = true; waiting = true }
touched Clear = record { using = true; watching = true; waiting = true }
touched End = record { using = false; watching = false; waiting = false }
touched (Use tube) = record { using = true; watching = false; waiting = false }

-- a client that begins to wait is connected
abbrev pub may_wait : SeatChange → Option SeatRecord → Bool
may_wait (Wait ticket until) o = is_connected o
may_wait _ o = true

-- the roles of a client at the tube that it uses, and at those that it watches, restricted to `what`
abbrev pub roles_as_user : Roles → SeatRecord → Roles
roles_as_user what s = record { using = what.using && s.connected; watching = false; waiting = false }

abbrev pub roles_as_watcher : Roles → SeatRecord → Roles
roles_as_watcher what s = record { using = false; watching = what.watching && s.connected; waiting = what.waiting && is_waiting s }

-- the roles of a client at one more tube that it watches, and at a tube that it may watch
abbrev pub roles_of_watcher : SeatRecord → Roles
roles_of_watcher s = record { using = false; watching = s.connected; waiting = is_waiting s }

abbrev pub roles_of_watching : List ℕ → SeatRecord → Roles
roles_of_watching name s = record { using = false; watching = is_watcher name s; waiting = is_waiter name s }

-- A waiting client is connected, and watches no tube twice.
pub record IsSeated (s : SeatRecord) : Type 0 where
  pub waits : is_waiting s ≡ true → s.connected ≡ true
  pub once : none_twice s.watched ≡ true
