-- The model that a core represents.
use Rattle.std.specs.{Global.Global, Prelude.{Bool, List, Some, Vec, count_by, map, ℕ, ◌≡◌}}
use Rattle.bq_job.specs.{declared.{job.Job.Job, settings.Settings.Settings}, machine.{SeatRecord, seat_with, tube_after_timers}}
use Rattle.bq_job.specs.machine.{Machine.Machine, tube_record, watching, with_seat}
use Rattle.bq_jobs.specs.JobsSeen.{JobsSeen}
use Rattle.bq_state.specs.{Crowds.crowd_of, Tallies.tally_in, TubeEntries.counted, TubesSeen.{EntrySeen, TubesSeen, records}}
use Rattle.bq_state.specs.{WaitingList.WaitingList, declared.{core_parts.CoreParts.CoreParts, known.Known.Known}}

-- the fields of a state, without its invariants
pub record Fields : Type 0 where
  pub config : Settings
  pub jobs : JobsSeen
  pub seats : Vec SeatRecord Global
  pub waiting : WaitingList
  pub tubes : TubesSeen
  pub known : Known
  pub moment : ℕ
  pub next_id : ℕ
  pub burials : ℕ
  pub tickets : ℕ
  pub draining : Bool
  pub timeouts : ℕ
  pub puts : ℕ
  pub connections : ℕ

abbrev pub fields : CoreParts → Fields
fields s = record {
  config = s.config;
  jobs = s.store.jobs;
  seats = s.seats;
  waiting = s.waiting;
  tubes = s.store.tubes;
  known = s.known;
  moment = s.moment;
  next_id = s.next_id;
  burials = s.burials;
  tickets = s.tickets;
  draining = s.draining;
  timeouts = s.timeouts;
  puts = s.puts;
  connections = s.connections;
}

abbrev pub machine_of_fields : Fields → Machine
machine_of_fields h = record {
  settings = h.config;
  jobs = h.jobs.jobs;
  seats = h.seats.items;
  tubes = counted (records h.tubes);
  moment = h.moment;
  next_id = h.next_id;
  burials = h.burials;
  tickets = h.tickets;
  draining = h.draining;
  timeouts = h.timeouts;
  puts = h.puts;
  connections = h.connections;
}

abbrev pub machine_of : CoreParts → Machine
machine_of s = machine_of_fields (fields s)

-- the model after the pauses that are over have ended
abbrev pub with_pauses_ended : Machine → Machine
with_pauses_ended m = record m { tubes = map (tube_after_timers m.moment) m.tubes }

-- what is kept of the tube with this name, according to the model
abbrev pub entry_in : Machine → List ℕ → EntrySeen
entry_in m name =
    let t = tube_record name m in
    record {
      pause = t.pause;
      puts = t.puts;
      deletes = t.deletes;
      pauses = t.pauses;
      tally = tally_in m.jobs name;
      crowd = crowd_of m.seats name;
    }

-- The state is the same except for the comparison count.
abbrev pub OnlyCompares : CoreParts → CoreParts → Type 0
OnlyCompares old new = fields new ≡ record (fields old) { jobs = record old.store.jobs { comparisons = new.store.jobs.comparisons } }

-- how many of its jobs pass
abbrev pub count_jobs : (Job → Bool) → CoreParts → ℕ
count_jobs passes s = count_by passes s.store.jobs.jobs

-- this holds for the record of this seat, if there is one
abbrev pub AtSeat : ℕ → CoreParts → (SeatRecord → Type 0) → Type 0
AtSeat seat state P = (s : SeatRecord) → seat_with seat (machine_of state).seats ≡ Some s → P s

-- the client at this seat watches these tubes, out of those that it watched
abbrev pub Watches : ℕ → (SeatRecord → List (List ℕ)) → CoreParts → CoreParts → Type 0
Watches seat names old new = AtSeat seat old (λ s. machine_of new ≡ with_seat seat (watching (names s)) (machine_of old))
