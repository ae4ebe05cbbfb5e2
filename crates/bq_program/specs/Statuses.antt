-- The status of a program: 0 if all went well, 1 after a fault, 2 for bad options.
use Rattle.std.specs.Prelude.{ℕ, ◌≡◌, ◌≤◌, Result, Ok, Err}
use Rattle.bq_job.specs.declared.line_end.LineEnd.{LineEnd}
use Rattle.bq_job.specs.declared.line_end.LineEnd.TheVariants as ends
use Rattle.bq_program.specs.declared.chosen.OptionFault.{OptionFault}
use Rattle.bq_program.specs.declared.chosen.OptionFault.TheVariants as words
use Rattle.bq_program.specs.declared.fault.Fault.{Fault}
use Rattle.bq_program.specs.declared.fault.Stop.{Stop}
use Rattle.bq_program.specs.declared.fault.Stop.TheVariants as stops

-- A client's connection has ended.
abbrev pub status_of_end : LineEnd → ℕ
status_of_end ends.Quit = 0
status_of_end ends.EndOfInput = 0
status_of_end ends.ReadFault = 1
status_of_end ends.WriteFault = 1

-- A server's seats and its control line have ended, or there was a fault.
abbrev pub status_of_server : Result (Unit {0}) Fault → ℕ
status_of_server (Ok done) = 0
status_of_server (Err fault) = 1

-- Writing the help may fail, which is a fault.
abbrev pub IsStatusOfOptionFault : OptionFault → ℕ → Type 0
IsStatusOfOptionFault (words.AskedHelp text) status = status ≤ 1
IsStatusOfOptionFault (words.BadOptions text) status = status ≡ 2
IsStatusOfOptionFault words.NoMemory status = status ≡ 1

abbrev pub IsStatusOfStop : Stop → ℕ → Type 0
IsStatusOfStop (stops.Options fault) status = IsStatusOfOptionFault fault status
IsStatusOfStop (stops.Fault fault) status = status ≡ 1
