-- The numbers of a run's errors.
use Rattle.std.specs.Prelude.{ℕ}
use Rattle.bq_host.specs.declared.fault.RunFault.{RunFault}
use Rattle.bq_host.specs.declared.fault.RunFault.TheVariants as faults

abbrev pub run_fault_code : RunFault → ℕ
run_fault_code faults.NoMemory = 501
run_fault_code faults.ThreadRefused = 502
run_fault_code faults.BadConfiguration = 503
