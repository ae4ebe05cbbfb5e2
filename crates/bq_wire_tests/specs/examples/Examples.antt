-- Short words for worked examples: steps of clients, settings and models.
use Rattle.std.specs.Prelude.{ℕ, None}
use Rattle.bq_job.specs.machine.{new_machine, Machine.Machine}
use Rattle.bq_job.specs.promise.{Entry}
use Rattle.bq_job.specs.declared.{request.Request.Request, settings.Settings.Settings, step.Step.Step}
use Rattle.bq_job.specs.declared.step.Step.TheVariants as steps

-- a step at the moment 0
abbrev pub event : ℕ → Step → Entry
event seat what = record { moment = 0; seat = seat; what = what }

abbrev pub connect : ℕ → Entry
connect seat = event seat steps.Connect

abbrev pub ask : ℕ → Request → Entry
ask seat request = event seat (steps.Ask request)

abbrev pub close : ℕ → Entry
close seat = event seat steps.Close

abbrev pub drain : Entry
drain = event 0 steps.Drain

abbrev pub tick : ℕ → Entry
tick moment = record { moment = moment; seat = 0; what = steps.Tick }

-- the same step at this moment
abbrev pub at : ℕ → Entry → Entry
at moment e = record e { moment = moment }

-- settings with this many seats and this limit on bodies, and defaults for the rest
abbrev pub plain : ℕ → ℕ → Settings
plain seats max_job_size = record { seats = seats; max_job_size = max_job_size; max_jobs = None; requeue_delay = 0 }

-- a model with this many seats and no client
abbrev pub server : ℕ → ℕ → Machine
server seats max_job_size = new_machine (plain seats max_job_size)
