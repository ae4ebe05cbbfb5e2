-- The rings of the core's end, when one is used.
use Rattle.std.proofs.Common.{◌≡◌, ℕ, Bool, true, false, not, ◌+◌, ◌<◌, ◌≤◌, Global}
use Rattle.std.proofs.Common.{List, map, length, get_or, set, ap, ◌∙◌, arith}
use Rattle.std.proofs.lemmas.Option.{slice_get_within}
use Rattle.std.proofs.Math.Seq.{map-set_same}
use Rattle.std.proofs.lemmas.{Bool.cases_Bool, Grind.common_steps}
use Rattle.std.proofs.lemmas.List.{get_or-map, get_or-set_same, length-append, length-map, length-set, map-set}
use Rattle.std.specs.List.{AllByRecursion as All}
use Rattle.std.specs.Vec.{with_item}
use Rattle.bq_job.specs.declared.answer.Answer.{Answer}
use Rattle.rtrb.specs.Ring.{SameProducer, known_free, producer_capacity, sent}
use Rattle.rtrb.specs.declared.AnyItems.{AnyItems}
use Rattle.rtrb.specs.declared.producer.Producer.{Producer}
use Rattle.bq_link.specs.declared.ends.CoreEnd.TheInside.{Inside as CoreFields}
use Rattle.bq_link.specs.EndStates.{CoreState, ring_places, room_for, sent_to}
use Rattle.bq_link.specs.Inside.{core_state}

-- the image of an element that was written
image_at : {X Y : Type 0} (f : X → Y) (xs : List X) (n : ℕ) (x : X) (e : Y) → n < length xs → get_or (map f (set xs n x)) n e ≡ f x
image_at f xs n x e within = get_or-map f (set xs n x) n x e (rw (length-set xs n x) within) ∙ ap f (get_or-set_same xs n x x within)

abbrev Ring : Type 0
Ring = Producer Answer Global AnyItems

-- the core's end with another value of one ring
abbrev pub with_ring : CoreFields → ℕ → Ring → CoreFields
with_ring c k p = record { pass = c.pass; rings = with_item c.rings k p }

pub within_of : (c : CoreFields) (old : CoreState) (k number : ℕ) → core_state c ≡ old → k ≡ number → number < length old.rings
    → k < length c.rings.items
within_of c old k number is at within = grind (arith, common_steps)

module _ (c : CoreFields) (old : CoreState) (k number : ℕ) (d p : Ring) (is : core_state c ≡ old) (at : k ≡ number)
    (here : d ≡ get_or c.rings.items k d) where
  -- something was sent
  pub changed : SameProducer d p → (xs : List Answer) → sent p ≡ xs
      → core_state (with_ring c k p) ≡ record old { sent = set old.sent number xs; room = set old.room number (known_free p) }
  changed same xs e = grind (arith, map-set, map-set_same)

  -- nothing was sent
  pub unsent : SameProducer d p → sent p ≡ sent d → (n : ℕ) → known_free p ≡ n
      → core_state (with_ring c k p) ≡ record old { room = set old.room number n }
  unsent same e n free = grind (arith, map-set, map-set_same)

  pub room_now : k < length c.rings.items → room_for (core_state (with_ring c k p)) number ≡ known_free p
  room_now within = grind (arith, common_steps, image_at)

  pub sent_now : k < length c.rings.items → sent_to (core_state (with_ring c k p)) number ≡ sent p
  sent_now within = grind (arith, common_steps, image_at)

  pub room_was : k < length c.rings.items → room_for old number ≡ known_free d
  room_was within = grind (arith, common_steps, get_or-map)

  pub sent_was : k < length c.rings.items → sent_to old number ≡ sent d
  sent_was within = grind (arith, common_steps, get_or-map)

  pub places_of : All (λ (r : Ring). producer_capacity r ≡ ring_places) c.rings.items → k < length c.rings.items
      → producer_capacity d ≡ ring_places
  places_of all within = grind (arith, common_steps)

-- what a ring has, looked at where it lies in the core's end
pub ruleset looked = (common_steps, within_of, slice_get_within, room_now, sent_now, cases_Bool, unsent)

-- the room of a ring whose slots were looked at from both ends
pub ruleset looked_at_both = (looked, places_of, length-append)

-- what a ring has, and what it had, where an answer is sent
pub ruleset sends = (common_steps, within_of, room_now, room_was, sent_now, sent_was, changed, unsent)
