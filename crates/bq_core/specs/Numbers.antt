-- The numbers in statistics are those of the model.
use Rattle.std.specs.Prelude.{List, count_by, length, ℕ, ◌≡◌}
use Rattle.bq_core.specs.declared.texts.statistics.{ServerNumbers.ServerNumbers, TubeNumbers.TubeNumbers}
use Rattle.bq_job.specs.machine.{Machine.Machine, is_waiting, jobs_in, tube_record, tubes, using_count, waiting_clients_of, watching_count}
use Rattle.bq_state.specs.Tallies.{tally_of}

-- the numbers of the tube with this name
pub record AreOfTube (n : TubeNumbers) (name : List ℕ) (m : Machine) : Type 0 where
  pub jobs : n.jobs ≡ tally_of (jobs_in name m)
  pub puts : n.puts ≡ (tube_record name m).puts
  pub using : n.using ≡ using_count name m
  pub watching : n.watching ≡ watching_count name m
  pub waiting : n.waiting ≡ waiting_clients_of name m
  pub deletes : n.deletes ≡ (tube_record name m).deletes
  pub pauses : n.pauses ≡ (tube_record name m).pauses
  pub pause : n.pause ≡ (tube_record name m).pause
  pub moment : n.moment ≡ m.moment

-- the numbers of the server
pub record AreOfServer (n : ServerNumbers) (m : Machine) : Type 0 where
  pub jobs : n.jobs ≡ tally_of m.jobs
  pub timeouts : n.timeouts ≡ m.timeouts
  pub puts : n.puts ≡ m.puts
  pub max_job_size : n.max_job_size ≡ m.settings.max_job_size
  pub tubes : n.tubes ≡ length (tubes m)
  pub connected : n.connected ≡ count_by (λ s. s.connected) m.seats
  pub waiting : n.waiting ≡ count_by is_waiting m.seats
  pub connections : n.connections ≡ m.connections
  pub draining : n.draining ≡ m.draining
