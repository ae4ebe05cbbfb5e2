-- The settings of a run.
use Rattle.std.specs.Prelude.{Bool, ◌&&◌, ◌==◌}
use Rattle.bq_core_api.specs.Limits.{are_in_range}
use Rattle.bq_job.specs.declared.settings.Settings.{Settings}

-- one seat, and every other setting in its range
abbrev pub is_lone : Settings → Bool
is_lone config = (config.seats == 1) && are_in_range config
