-- Facts about errors, each by itself: a search among all facts about a run takes too long.
use Rattle.std.proofs.Common.{arith, ◌≡◌, ◌==◌, ◌&&◌, ℕ, not, true}
use Rattle.std.specs.Prelude.{◌↔◌, IsErrOf, IsTrue, Result}
use Rattle.bq_job.specs.declared.settings.Settings.{Settings}
use Rattle.bq_core_api.specs.Limits.{are_in_range}
use Rattle.bq_host.specs.declared.fault.RunFault.{RunFault}
use Rattle.bq_host.specs.declared.fault.RunFault.TheVariants.{BadConfiguration}

-- A run with a door for each seat, for which the content of the lock could be created, is not
-- rejected for its configuration.
pub well_configured : {T : Type 0} (result : Result T RunFault) (config : Settings) (doors : ℕ)
    → (IsErrOf result BadConfiguration → ⊥) → doors ≡ config.seats → are_in_range config ≡ true
    → IsErrOf result BadConfiguration ↔ IsTrue (not (are_in_range config && doors == config.seats))
well_configured result config doors other many range = grind arith
