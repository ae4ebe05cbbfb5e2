-- The commands that answer with a YAML text.
use Rattle.std.specs.Prelude.{ℕ, if◌then◌else◌, Option, Some, None, List}
use Rattle.bq_job.specs.declared.answer.Answer.TheVariants as answers
use Rattle.bq_job.specs.{declared.job.Job.Job, machine.{Acts.{Effect, telling}, Changes.job_with, Machine.Machine}}
use Rattle.bq_job.specs.machine.{Machine.SeatRecord, Statistics.{job_statistics, name_list, server_statistics}}
use Rattle.bq_job.specs.machine.{Statistics.{tube_statistics, tubes}, Tubes.is_tube}

abbrev pub job_statistics_or_not : Machine → Option Job → Effect
job_statistics_or_not m None = telling answers.NotFound m
job_statistics_or_not m (Some j) = telling (answers.Ok (job_statistics m j)) m

abbrev pub stats_job_effect : ℕ → Machine → Effect
stats_job_effect id m = job_statistics_or_not m (job_with id m.jobs)

abbrev pub stats_tube_effect : List ℕ → Machine → Effect
stats_tube_effect tube m =
    if is_tube tube m then telling (answers.Ok (tube_statistics tube m)) m else telling answers.NotFound m

abbrev pub stats_effect : Machine → Effect
stats_effect m = telling (answers.Ok (server_statistics m)) m

abbrev pub list_tubes_effect : Machine → Effect
list_tubes_effect m = telling (answers.Ok (name_list (tubes m))) m

abbrev pub list_watched_effect : Machine → SeatRecord → Effect
list_watched_effect m s = telling (answers.Ok (name_list s.watched)) m
