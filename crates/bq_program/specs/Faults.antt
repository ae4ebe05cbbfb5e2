-- The faults of a program that a fault of its run and an end of its client's connection are, and
-- the report of each.
use Rattle.std.specs.Prelude.{ℕ, List, Option, Some, None, codes}
use Rattle.bq_job.specs.declared.line_end.LineEnd.{LineEnd}
use Rattle.bq_job.specs.declared.line_end.LineEnd.TheVariants as ends
use Rattle.bq_program.specs.declared.fault.Fault.{Fault}
use Rattle.bq_program.specs.declared.fault.Fault.TheVariants as faults
use Rattle.bq_program.specs.declared.fault.Need.TheVariants as needs
use Rattle.bq_host.specs.declared.fault.RunFault.{RunFault}
use Rattle.bq_host.specs.declared.fault.RunFault.TheVariants as runs

abbrev pub fault_of_run : RunFault → Fault
fault_of_run runs.NoMemory = faults.NoMemory needs.Queue
fault_of_run runs.ThreadRefused = faults.ThreadRefused
fault_of_run runs.BadConfiguration = faults.BadConfiguration

-- the same for a run by an event loop, which starts no thread
abbrev pub fault_of_loop : RunFault → Fault
fault_of_loop runs.ThreadRefused = faults.EpollRefused
fault_of_loop fault = fault_of_run fault

-- None: the connection ended well
abbrev pub fault_of_end : LineEnd → Option Fault
fault_of_end ends.Quit = None
fault_of_end ends.EndOfInput = None
fault_of_end ends.ReadFault = Some faults.ReadFailed
fault_of_end ends.WriteFault = Some faults.WriteFailed

-- the first line of the report of a fault, without the program's name
abbrev pub fault_text : Fault → List ℕ
fault_text faults.ReadFailed = codes "read failed"
fault_text faults.WriteFailed = codes "write failed"
fault_text faults.CannotListen = codes "cannot listen"
fault_text (faults.NoMemory need) = codes "no memory"
fault_text faults.ThreadRefused = codes "a thread was refused"
fault_text faults.EpollRefused = codes "epoll was refused"
fault_text faults.BadConfiguration = codes "bad configuration"
fault_text faults.NotAccepted = codes "a connection could not be accepted"
fault_text faults.TooManyTurns = codes "too many turns"

-- the second line, if the fault alone determines one
abbrev pub fault_detail : Fault → Option (List ℕ)
fault_detail (faults.NoMemory needs.Options) = Some (codes "could not allocate memory for the options")
fault_detail (faults.NoMemory needs.ControlLine) = Some (codes "could not allocate memory for the control line")
fault_detail (faults.NoMemory needs.Doors) = Some (codes "could not allocate memory for the buffers of the seats")
fault_detail (faults.NoMemory needs.Queue) = Some (codes "could not allocate memory for the queue and its seats")
fault_detail faults.EpollRefused = Some (codes "could not watch the listener and standard input")
fault_detail _ = None
