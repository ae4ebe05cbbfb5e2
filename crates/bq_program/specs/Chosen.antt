-- The options of either program, as one type.
use Rattle.std.specs.Prelude.{◌≡◌, false, Some, None}
use Rattle.bq_program.specs.Ranges.{IsForBq, IsForBqd}
use Rattle.bq_program.specs.declared.chosen.BqOptions.{BqOptions}
use Rattle.bq_program.specs.declared.chosen.BqdOptions.{BqdOptions}
use Rattle.bq_program.specs.declared.program.Program.{Program}
use Rattle.bq_program.specs.declared.program.Program.TheVariants.{Bq, Bqd}
use Rattle.bq_program.specs.declared.chosen.Options.{Options}
use Rattle.bq_program.specs.declared.chosen.WhenFull.TheVariants as ways

-- A lone client has one seat, there is no listener, and a job of a lost connection is not delayed. No other client waits.
abbrev pub of_bq : BqOptions → Options
of_bq o = record {
  listen = None;
  still = o.still;
  seats = 1;
  max_job_size = o.max_job_size;
  max_jobs = o.max_jobs;
  requeue_delay = 0;
  sessions = None;
  event_loop = false;
  when_full = ways.Wait;
}

-- A server listens, and its clock does not stand still.
abbrev pub of_bqd : BqdOptions → Options
of_bqd o = record {
  listen = Some o.listen;
  still = false;
  seats = o.seats;
  max_job_size = o.max_job_size;
  max_jobs = o.max_jobs;
  requeue_delay = o.requeue_delay;
  sessions = o.sessions;
  event_loop = o.event_loop;
  when_full = o.when_full;
}

-- The options of this program, each in its range.
abbrev pub AreInRange : Program → Options → Type 0
AreInRange Bq o = (bq : BqOptions) × IsForBq bq × (o ≡ of_bq bq)
AreInRange Bqd o = (bqd : BqdOptions) × IsForBqd bqd × (o ≡ of_bqd bqd)
