-- The seats of an event loop that can act, in the order of their visits, and those that check for a
-- connection.
use Rattle.std.specs.Prelude.{ℕ, zero, suc, ◌≡◌, ◌+◌, ◌≤◌, ◌==◌, ◌&&◌, Bool, true, false, nat_lt, List, [], ◌∷◌, ◌++◌, if◌then◌else◌}
use Rattle.bq_host.specs.Marks.{HasMarks, times}
use Rattle.bq_event_loop.specs.declared.seat_queue.Listed.{Listed}
use Rattle.bq_event_loop.specs.declared.seat_queue.Listed.TheVariants as lists

pub record Listing : Type 0 where
  -- how many seats there are
  pub seats : ℕ
  -- the seats that can act, in the order of their visits
  pub queue : List ℕ
  -- the seats that check for a connection; the last one is the next to check
  pub free : List ℕ
  -- how many seats at the front of the queue are visited in this round
  pub round : ℕ
  -- how many seats were visited in this part of the round
  pub at : ℕ

-- the numbers below n, the largest one first
abbrev pub falling : ℕ → List ℕ
falling zero = []
falling (suc n) = n ∷ falling n

-- All seats check for a connection, the first seat before the others.
abbrev pub all_free : ℕ → Listing
all_free seats = record { seats = seats; queue = []; free = falling seats; round = 0; at = 0 }

-- the seat exists, and it is in neither list
abbrev pub is_nowhere : ℕ → Listing → Bool
is_nowhere seat l = nat_lt seat l.seats && (times seat l.queue + times seat l.free == 0)

-- A seat that is in neither list is the last one to be visited.
abbrev pub enqueued : ℕ → Listing → Listing
enqueued seat l = if is_nowhere seat l then record l { queue = l.queue ++ seat ∷ [] } else l

-- A seat that is in neither list is the next one to check for a connection.
abbrev pub freed : ℕ → Listing → Listing
freed seat l = if is_nowhere seat l then record l { free = l.free ++ seat ∷ [] } else l

-- Each seat is at most once in both lists together, and only seats that exist are in them.
pub record IsDisjoint (l : Listing) : Type 0 where
  pub once : (seat : ℕ) → times seat l.queue + times seat l.free ≤ 1
  pub within : (seat : ℕ) → l.seats ≤ seat → times seat l.queue + times seat l.free ≡ 0

abbrev pub is_queued : Listed → Bool
is_queued lists.Queued = true
is_queued _ = false

abbrev pub is_free : Listed → Bool
is_free lists.Free = true
is_free _ = false

-- The marks of the seats tell which list each of them is in.
abbrev pub AreMarked : List ℕ → List ℕ → List Listed → Type 0
AreMarked queue free marks = HasMarks is_queued lists.Nowhere queue marks × HasMarks is_free lists.Nowhere free marks
