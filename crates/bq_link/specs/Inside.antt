-- What the ends' fields mean.
use Rattle.std.specs.Prelude.{◌≡◌, true, [], map, length}
use Rattle.crossbeam_queue.specs.Passes.{view}
use Rattle.std.specs.List.{AllByRecursion}
use Rattle.rtrb.specs.Ring.{known_free, known_items, producer_capacity, received, sent}
use Rattle.rtrb.specs.declared.producer.Producer.{Producer}
use Rattle.bq_link.specs.EndStates.{CoreState, RingId, SeatState, ring_places}
use Rattle.bq_link.specs.declared.ends.CoreEnd.TheInside.{Inside as CoreFields}
use Rattle.bq_link.specs.declared.ends.SeatEnd.TheInside.{Inside as SeatFields}

abbrev pub ring_of : {T A P : Type 0} → Producer T A P → RingId
ring_of r = record { words = r.end.words; slots = r.end.slots; names = r.end.names }

abbrev pub seat_state : SeatFields → SeatState
seat_state e = record {
  number = e.number;
  intake = e.pass.table_id;
  ring = record { words = e.mail.end.words; slots = e.mail.end.slots; names = e.mail.end.names };
  submitted = (view e.pass).submitted;
  taken = received e.mail;
  waiting = known_items e.mail;
}

-- its pass submits under its number
pub record IsSeatSound (e : SeatFields) : Type 0 where
  pub submits : (view e.pass).submits ≡ true
  pub number : (view e.pass).number ≡ e.number
  pub free : e.pass.me.1 ≡ []

abbrev pub core_state : CoreFields → CoreState
core_state c = record {
  intake = c.pass.table_id;
  rings = map (λ r. ring_of r) c.rings.items;
  taken = (view c.pass).taken;
  told = (view c.pass).told;
  sent = map (λ r. sent r) c.rings.items;
  room = map (λ r. known_free r) c.rings.items;
}

-- its pass takes, and there is a ring for each end, with this many places
pub record IsCoreSound (c : CoreFields) : Type 0 where
  pub takes : (view c.pass).takes ≡ true
  pub made : (view c.pass).made ≡ length c.rings.items
  pub free : c.pass.me.1 ≡ []
  pub places : AllByRecursion (λ r. producer_capacity r ≡ ring_places) c.rings.items
