-- Texts that are written to a connection.
use Rattle.std.specs.Prelude.{ℕ, ◌≡◌, List, ◌++◌, take}
use Rattle.bq_job.specs.declared.line_end.LineFault.TheVariants as faults
use Rattle.bq_job.specs.promise.LineSteps.{LineSeen, IsBeginning}
use Rattle.bq_line.specs.LineCalls.{with_line_fault}
use Rattle.bq_line.specs.declared.buffers.Wrote.{Wrote}
use Rattle.bq_line.specs.declared.buffers.Wrote.TheVariants as wrotes

abbrev pub with_written : List ℕ → LineSeen → LineSeen
with_written bytes line = record line { written = line.written ++ bytes }

-- A first part of the text was written, and then came a write fault.
pub record BreaksOff (text : List ℕ) (old new : LineSeen) : Type 0 where
  pub cut : List ℕ
  pub is_beginning : IsBeginning cut text
  pub seen : new ≡ with_line_fault faults.Write (with_written cut old)

-- The first `sent` bytes of the text were written.
abbrev pub with_begun : List ℕ → ℕ → LineSeen → LineSeen
with_begun text sent line = with_written (take sent text) line

-- How far the writing of a text got on a connection that recorded `first` before any of it was
-- written.
abbrev pub WritesOn : List ℕ → LineSeen → Wrote → ℕ → LineSeen → Type 0
WritesOn text first wrotes.Whole sent later = later ≡ with_written text first
WritesOn text first wrotes.Part sent later = later ≡ with_begun text sent first
WritesOn text first wrotes.NotYet sent later = later ≡ with_begun text sent first
WritesOn text first wrotes.Fault sent later = BreaksOff text first later

-- The writing of a text continued after its first `sent` bytes.
abbrev pub Resumes : List ℕ → ℕ → LineSeen → Wrote → ℕ → LineSeen → Type 0
Resumes text sent old wrote now later = (first : LineSeen) → old ≡ with_begun text sent first → WritesOn text first wrote now later
