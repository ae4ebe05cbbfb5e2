-- How the calls of a connection change what it records.
use Rattle.std.specs.Prelude.{ℕ, ◌==◌, ◌||◌, Bool, true, false, List, [], ◌++◌, take, Option, Some, None, Result, Ok, Err, if◌then◌else◌}
use Rattle.std.specs.declared.io.Error.{Error}
use Rattle.std.specs.declared.io.ErrorKind.{ErrorKind}
use Rattle.std.specs.declared.io.ErrorKind.TheVariants as kinds
use Rattle.std.specs.IoError.{error_kind}
use Rattle.bq_job.specs.declared.line_end.LineFault.{LineFault}
use Rattle.bq_job.specs.declared.line_end.LineFault.TheVariants as faults
use Rattle.bq_job.specs.promise.LineSteps.{LineSeen}
use Rattle.bq_line.specs.declared.line.stream_error.StreamError.{StreamError}
use Rattle.bq_line.specs.declared.line.stream_error.StreamError.TheVariants as errors

-- an unused connection
abbrev pub new_line : LineSeen
new_line = record { read = []; written = []; ended = false; fault = None }

-- what an error of the system means for a stream
abbrev pub stream_error : ErrorKind → StreamError
stream_error kinds.WouldBlock = errors.NotYet
stream_error kinds.TimedOut = errors.Interrupted
stream_error kinds.Interrupted = errors.Interrupted
stream_error _ = errors.Fault

-- the result of a call of the system, with what its error means
abbrev pub in_brief : {A : Type 0} → Result A Error → Result A StreamError
in_brief (Ok done) = Ok done
in_brief (Err e) = Err (stream_error (error_kind e))

-- an error that means only that there are no bytes yet, or no room yet
abbrev pub is_nothing_yet : StreamError → Bool
is_nothing_yet errors.NotYet = true
is_nothing_yet errors.Interrupted = true
is_nothing_yet errors.Fault = false

-- The call found no bytes, or no room: the system reports when there are some.
abbrev pub found_nothing : Result ℕ StreamError → Bool
found_nothing (Err errors.NotYet) = true
found_nothing _ = false

-- the first fault is kept
abbrev pub first_fault : Option LineFault → LineFault → Option LineFault
first_fault None fault = Some fault
first_fault (Some first) fault = Some first

abbrev pub with_line_fault : LineFault → LineSeen → LineSeen
with_line_fault fault line = record line { fault = first_fault line.fault fault }

-- A read that returns no bytes means that the connection's input has ended.
abbrev pub after_read : Result ℕ StreamError → List ℕ → LineSeen → LineSeen
after_read (Ok n) buf line = record line { read = line.read ++ take n buf; ended = line.ended || n == 0 }
after_read (Err e) buf line = if is_nothing_yet e then line else with_line_fault faults.Read line

-- Bytes that come into a connection's own buffer aren't read yet.
abbrev pub after_fill : Result (Unit {0}) StreamError → LineSeen → LineSeen
after_fill (Ok done) line = line
after_fill (Err e) line = after_read (Err e) [] line

-- The first `n` bytes of the connection's own buffer are read. For 0 nothing changes.
abbrev pub after_take : ℕ → List ℕ → LineSeen → LineSeen
after_take n came line = if n == 0 then line else after_read (Ok n) came line

-- An error that means only that there is no room yet leaves the connection as it was. Any other
-- error is a fault, and so is a write that takes no bytes.
abbrev pub after_write : Result ℕ StreamError → List ℕ → LineSeen → LineSeen
after_write (Ok n) buf line = if n == 0 then with_line_fault faults.Write line else record line { written = line.written ++ take n buf }
after_write (Err e) buf line = if is_nothing_yet e then line else with_line_fault faults.Write line

abbrev pub after_flush : Result (Unit {0}) StreamError → LineSeen → LineSeen
after_flush (Ok done) line = line
after_flush (Err e) line = with_line_fault faults.Write line
