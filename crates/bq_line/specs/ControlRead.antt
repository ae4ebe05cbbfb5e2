-- How the control line is read.
use Rattle.std.specs.Prelude.{ℕ, Bool, true, false, ◌≡◌, ◌+◌, ◌||◌, IsTrue, List, [], ◌++◌, Option, Some, None, Result, Ok, Err}
use Rattle.bq_job.specs.declared.step.Step.{Step}
use Rattle.bq_job.specs.promise.ControlDid.{are_same, drain_word, drains_from, one_if}
use Rattle.bq_line.specs.ControlSeen.{ControlSeen}
use Rattle.bq_line.specs.Links.{as_submitted}

-- A read met the end of the input, or failed.
abbrev pub IsOver : ControlSeen → Type 0
IsOver seen = IsTrue (seen.ended || seen.failed)

-- If the reader's bytes are known, this text was read: all that there was, unless the reader
-- failed.
abbrev pub IsReadToEnd : Option (List ℕ) → Option (List ℕ) → List ℕ → Bool → Type 0
IsReadToEnd None after text failed = Unit {0}
IsReadToEnd (Some before) None text failed = ⊥
IsReadToEnd (Some before) (Some after) text failed = (before ≡ text ++ after) × (failed ≡ false → after ≡ [])

-- These bytes of a line were read after what was kept of it. If the line has ended, the kept bytes
-- say whether it was `drain`. Otherwise they count as the whole line would, whatever the rest is.
abbrev pub HasRead : List ℕ → List ℕ → Bool → List ℕ → Type 0
HasRead kept bytes true new =
    (rest : List ℕ) (failed : Bool)
    → drains_from kept (bytes ++ rest) failed ≡ one_if (are_same new drain_word) + drains_from [] rest failed
HasRead kept bytes false new = (rest : List ℕ) (failed : Bool) → drains_from kept (bytes ++ rest) failed ≡ drains_from new rest failed

-- The step was submitted after the earlier ones, or it was returned and nothing was submitted.
abbrev pub SubmitsOn : {K : Type 0} → (K → List Step → K → Type 0) → K → List Step → Step → Result (Unit {0}) Step → K → Type 0
SubmitsOn trace first before step (Ok done) new = trace first (before ++ as_submitted step) new
SubmitsOn trace first before step (Err back) new = trace first before new
