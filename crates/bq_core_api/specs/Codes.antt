-- The numbers of faults.
use Rattle.std.specs.Prelude.{ℕ}
use Rattle.bq_core_api.specs.declared.config.CoreFault.{CoreFault}
use Rattle.bq_core_api.specs.declared.config.CoreFault.TheVariants as faults

abbrev pub fault_code : CoreFault → ℕ
fault_code faults.BadSeats = 302
fault_code faults.BadMaxJobSize = 303
fault_code faults.BadMaxJobs = 304
fault_code faults.NoMemory = 301
