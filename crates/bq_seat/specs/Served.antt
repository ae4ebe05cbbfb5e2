-- A connection that was served.
use Rattle.std.specs.Prelude.{ℕ, ◌≡◌, false, List, [], ◌∷◌, ◌++◌, length, Option, Some, None}
use Rattle.bq_job.specs.declared.answer.Answer.{Answer}
use Rattle.bq_job.specs.declared.answer.Answer.TheVariants.{Closed}
use Rattle.bq_job.specs.declared.line_end.LineEnd.{LineEnd}
use Rattle.bq_job.specs.declared.line_end.LineEnd.TheVariants as ends
use Rattle.bq_job.specs.declared.line_end.LineFault.{LineFault}
use Rattle.bq_job.specs.declared.line_end.LineFault.TheVariants as faults
use Rattle.bq_job.specs.promise.LineSteps.{LineSeen, IsStepsOfLine, AreAllAnswered, heard}
use Rattle.bq_job.specs.machine.OneClient.{has_closed}
use Rattle.bq_seat.specs.Past.{Past}

-- the connection, as the machine has seen it, if these bytes were written to it
abbrev pub seen_line : List ℕ → Past → LineSeen
seen_line bytes p = record { read = p.bytes; written = bytes; ended = p.ended; fault = p.fault }

-- A write fault came on the last answer that was given for writing.
abbrev pub IsLastBroken : LineEnd → Past → Type 0
IsLastBroken ends.WriteFault p = p.written_at_fault ≡ length p.written
IsLastBroken _ p = Unit {0}

-- the fault of a connection that ended this way
abbrev pub IsFaultOf : LineEnd → Option LineFault → Type 0
IsFaultOf ends.Quit fault = fault ≡ None
IsFaultOf ends.EndOfInput fault = fault ≡ None
IsFaultOf ends.ReadFault fault = fault ≡ Some faults.Read
IsFaultOf ends.WriteFault fault = fault ≡ Some faults.Write

-- A connection was served from its opening until its close was submitted: its steps are those of
-- the connection. The answers given for writing are those that came before the close, in order: one
-- for each request except quit. After a read fault, the answer to a last request that may wait can
-- be missing.
pub record IsServedToClose (max_job_size : ℕ) (written : List ℕ) (end : LineEnd) (p : Past) : Type 0 where
  pub line : IsStepsOfLine max_job_size (heard (seen_line written p)) end p.steps
  pub handed_out : p.written ≡ p.mail
  pub answered : AreAllAnswered end line.asked p.mail
  pub broken : IsLastBroken end p
  pub fault : IsFaultOf end p.fault

-- The answers after the close end with the close's own, which is the first of its kind.
pub record EndsByClosed (late : List Answer) : Type 0 where
  pub others : List Answer
  pub late_is : late ≡ others ++ Closed ∷ []
  pub none_closed : has_closed others ≡ false

-- A connection that has ended was served until its close, and the close was answered.
pub record IsServed (max_job_size : ℕ) (written : List ℕ) (end : LineEnd) (p : Past) : Type 0 where
  pub to_close : IsServedToClose max_job_size written end p
  pub late : EndsByClosed p.late_mail
