-- Texts of statistics and lists.
use Rattle.std.specs.Prelude.{◌^◌, ◌≡◌, ◌≤◌, List, None, Option, Some, ℕ, decimal, length}
use Rattle.bq_job.specs.{declared.job.Job.Job, machine.{job_statistics, Machine.Machine}}
use Rattle.bq_core.specs.declared.texts.key_value.Value.{Value, TheVariants.{Number, Word}}

-- a text that is being written: the bytes so far, and for how many more there is room
pub record TextSoFar : Type 0 where
  pub bytes : List ℕ
  pub room : ℕ

abbrev pub value_text : Value → List ℕ
value_text (Number n) = decimal n
value_text (Word word) = word.now

-- The bytes have this length, or one of 2^64 or more.
abbrev pub IsSizeOf : List ℕ → Option ℕ → Type 0
IsSizeOf bytes None = 2 ^ 64 ≤ length bytes
IsSizeOf bytes (Some size) = size ≡ length bytes

-- the text is the statistics of the job, if there is one, at this moment
abbrev pub TellsJob : ℕ → Option Job → List ℕ → Type 0
TellsJob moment o text = (m : Machine) (j : Job) → m.moment ≡ moment → o ≡ Some j → text ≡ job_statistics m j
