-- The move of a changed job from its place in each order to its new one.
use Rattle.std.specs.Prelude.{◌≡◌, ℕ, ◌+◌, ◌<◌, if◌then◌else◌, is_some, true, List, Option, Some, None, Result, Ok, Err}
use Rattle.std.specs.declared.cmp.Ordering.{Ordering}
use Rattle.bq_jobs.specs.declared.places.Holder.{Holder}
use Rattle.bq_jobs.specs.declared.places.ShelfPlace.{ShelfPlace}
use Rattle.bq_jobs.specs.declared.places.Timer.{Timer}
use Rattle.bq_jobs.specs.declared.numbered_jobs.NumberedMove.{NumberedMove}
use Rattle.bq_jobs.specs.declared.numbered_jobs.PriAndState.{PriAndState}
use Rattle.bq_jobs.specs.Inside.{Order}
use Rattle.bq_jobs.specs.PlaceOrder.{ComparesTwice, holds_place, with_place, without_place}
use Rattle.bq_jobs.specs.Places.{in_groups_at, in_timers_at}

-- the places of a job with this id, priority and state, in a tube
abbrev pub group_at : ℕ → List ℕ → PriAndState → Option (ShelfPlace Holder)
group_at id tube at = in_groups_at at.state at.pri tube id

abbrev pub timer_at : ℕ → PriAndState → Option (ShelfPlace Timer)
timer_at id at = in_timers_at at.state id

-- What a move from one place to another needs: the first place is taken, there is a box for the
-- second, and the second will be free.
pub record CanMove {G : Type 0} (C : G → G → Ordering) (from to : Option (ShelfPlace G)) (order : Order G) : Type 0 where
  pub held : (p : ShelfPlace G) → from ≡ Some p → is_some (holds_place C p order.entries) ≡ true
  pub spare : (p : ShelfPlace G) → to ≡ Some p → 0 < order.spare + (if is_some from then 1 else 0)
  pub absent : (p : ShelfPlace G) → to ≡ Some p → holds_place C p (without_place C from order.entries) ≡ None

-- an order before and after the move
pub record Moves {G : Type 0} (C : G → G → Ordering) (from to : Option (ShelfPlace G)) (old new : Order G) : Type 0 where
  pub entries : new.entries ≡ with_place C to (without_place C from old.entries)
  pub spare : new.spare + (if is_some to then 1 else 0) ≡ old.spare + (if is_some from then 1 else 0)
  pub comparisons : ComparesTwice old new

-- Both moves of a job, which was changed if `told` has a report about that.
module _ {E : Type 0} (group_cmp : Holder → Holder → Ordering) (timer_cmp : Timer → Timer → Ordering) (id : ℕ) where
  abbrev pub CanMoveIf : Option (Result (NumberedMove × List ℕ) E) → Order Holder → Order Timer → Type 0
  CanMoveIf None groups timers = Unit {0}
  CanMoveIf (Some (Err e)) groups timers = Unit {0}
  CanMoveIf (Some (Ok s)) groups timers = CanMove group_cmp (group_at id s.0.tube s.0.from) (group_at id s.0.tube s.0.to) groups
      × CanMove timer_cmp (timer_at id s.0.from) (timer_at id s.0.to) timers

  abbrev pub MovesIf : Option (Result (NumberedMove × List ℕ) E) → Order Holder → Order Holder → Order Timer → Order Timer → Type 0
  MovesIf None groups new timers later = (new ≡ groups) × (later ≡ timers)
  MovesIf (Some (Err e)) groups new timers later = (new ≡ groups) × (later ≡ timers)
  MovesIf (Some (Ok s)) groups new timers later =
      Moves group_cmp (group_at id s.0.tube s.0.from) (group_at id s.0.tube s.0.to) groups new
      × Moves timer_cmp (timer_at id s.0.from) (timer_at id s.0.to) timers later
