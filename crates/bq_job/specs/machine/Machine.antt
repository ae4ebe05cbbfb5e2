-- The one-list model: the state of a work queue server, without anything that only makes it fast.
use Rattle.std.specs.Prelude.{ℕ, zero, suc, Bool, false, List, [], ◌∷◌, Option, None, codes, map}
use Rattle.bq_job.specs.declared.job.Job.{Job}
pub use Rattle.bq_job.specs.declared.settings.Settings.{Settings}

-- a client that waits for a job: its turn among the waiting clients, and when it times out, if ever
pub record Wait : Type 0 where
  pub ticket : ℕ
  pub until : Option ℕ

-- a seat, which serves one connection at a time
pub record SeatRecord : Type 0 where
  pub number : ℕ
  pub connected : Bool
  -- the tube that puts go into
  pub used : List ℕ
  -- the tubes that the client reserves from, in the order in which it watched them
  pub watched : List (List ℕ)
  pub wait : Option Wait
  -- whether the client sends no more
  pub ended : Bool

-- a pause of a tube: how many seconds were requested, and when it ends
pub record Pause : Type 0 where
  pub seconds : ℕ
  pub until : ℕ

-- what is kept of a tube besides its jobs: its pause, and how many jobs were put, how many deleted,
-- and how often it was paused, since it came into existence
pub record TubeRecord : Type 0 where
  pub name : List ℕ
  pub pause : Option Pause
  pub puts : ℕ
  pub deletes : ℕ
  pub pauses : ℕ

pub record Machine : Type 0 where
  pub settings : Settings
  -- every job that was put and not deleted
  pub jobs : List Job
  pub seats : List SeatRecord
  -- only of tubes that have had a put, a deletion or a pause; ordered by name
  pub tubes : List TubeRecord
  -- the largest moment of any step so far
  pub moment : ℕ
  -- the id of the next job
  pub next_id : ℕ
  -- the last burial number and the last ticket that were given out
  pub burials : ℕ
  pub tickets : ℕ
  -- whether puts are rejected from now on
  pub draining : Bool
  -- how many reservations have expired, how many puts were accepted, how many connections were
  -- opened
  pub timeouts : ℕ
  pub puts : ℕ
  pub connections : ℕ

abbrev pub default_tube : List ℕ
default_tube = codes "default"

-- a seat without a client; a client that connects uses and watches only the default tube
abbrev pub empty_seat : ℕ → SeatRecord
empty_seat number = record {
  number = number;
  connected = false;
  used = default_tube;
  watched = default_tube ∷ [];
  wait = None;
  ended = false;
}

-- `n` numbers from `low` on
abbrev pub numbers : ℕ → ℕ → List ℕ
numbers low zero = []
numbers low (suc n) = low ∷ numbers (suc low) n

-- the model of a new server
abbrev pub new_machine : Settings → Machine
new_machine settings = record {
  settings = settings;
  jobs = [];
  seats = map empty_seat (numbers 0 settings.seats);
  tubes = [];
  moment = 0;
  next_id = 1;
  burials = 0;
  tickets = 0;
  draining = false;
  timeouts = 0;
  puts = 0;
  connections = 0;
}
