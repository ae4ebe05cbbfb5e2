-- What turns do with the seats that they let act, said without the seats themselves.
use Rattle.std.specs.Prelude.{ℕ, ◌≡◌, ◌<◌, ◌⊎◌, Bool, true, Option, Some, None}
use Rattle.bq_event_loop.specs.Known.{IsListedIn, is_listed, is_trying}
use Rattle.bq_event_loop.specs.Listings.{Listing}
use Rattle.bq_event_loop.specs.Sleeping.{visited_by}
use Rattle.bq_event_loop.specs.declared.order.Order.{Order}
use Rattle.bq_event_loop.specs.declared.turns.Turn.{Turn}

-- A seat that acted or checked for a client still does either, unless nothing moves at it. It checks
-- for a client only if it did before or found none, and it does not both act and check.
pub record KeepsSeat (exists is_still is_free : Type 0) (listed tries later later_tries : Bool) : Type 0 where
  pub apart : later_tries ≡ true → later ≡ true → (tries ≡ true) × (listed ≡ true)
  pub trying : later_tries ≡ true → (tries ≡ true) ⊎ is_free
  pub known : exists → (listed ≡ true) ⊎ (tries ≡ true) → (later ≡ true) ⊎ (later_tries ≡ true) ⊎ is_still

-- The same for all seats of a queue and the seat that is visited. Nothing moves at the still seat, and
-- the free one found no client.
pub record KeepsSeats (still free : Option ℕ) (old : Listing) (visited : Option ℕ) (new : Listing) (next : Option ℕ) : Type 0 where
  pub seats : new.seats ≡ old.seats
  pub each : (seat : ℕ) → KeepsSeat (seat < old.seats) (still ≡ Some seat) (free ≡ Some seat)
      (is_listed old visited seat) (is_trying old seat) (is_listed new next seat) (is_trying new seat)

-- The order chose this turn. It kept the seats, and lets the seat of the turn act.
pub record Chooses (still free : Option ℕ) (old : Listing) (visited : Option ℕ) (order : Order) (turn : Turn) : Type 0 where
  pub keeps : KeepsSeats still free old visited order.queue (visited_by order.stage order.visit)
  pub acts : IsListedIn (is_listed order.queue (visited_by order.stage order.visit)) turn

-- The order chose a turn or, for now, none: then no seat is visited.
abbrev pub MayChoose : Listing → Option ℕ → Order → Option Turn → Type 0
MayChoose old visited order None = KeepsSeats None None old visited order.queue None
MayChoose old visited order (Some turn) = Chooses None None old visited order turn
