-- What a command line that was read requests.
use Rattle.std.specs.Prelude.{ℕ, ◌≡◌, List, [], ◌∷◌, Option, None}
use Rattle.bq_job.specs.reading.LineRead as spec
use Rattle.bq_job.specs.reading.Words.{job_id, number}
use Rattle.bq_job.specs.declared.request.Request.{Request}
use Rattle.bq_wire.specs.declared.line_read.LineRead.{LineRead}
use Rattle.bq_wire.specs.declared.line_read.LineRead.TheVariants.{Whole, PutWaits}
use Rattle.bq_wire.specs.declared.line_read.PutLine.{PutLine}

-- the value of the only word; None if there is no word or more than one
abbrev pub only : {A : Type 0} → (List ℕ → Option A) → List (List ℕ) → Option A
only read [] = None
only read (word ∷ []) = read word
only read (word ∷ next ∷ more) = None

abbrev pub put_line_of : PutLine → spec.PutLine
put_line_of put = record { pri = put.pri; delay = put.delay; ttr = put.ttr; bytes = put.bytes }

-- What a command line requests. A complete request is the one in `place`.
abbrev pub asked_by : LineRead → Request → spec.LineRead
asked_by Whole place = spec.Whole place
asked_by (PutWaits put) place = spec.PutWaits (put_line_of put)

-- the first word is removed, and this is what it denotes; or there is no word, or it denotes nothing
abbrev pub IsNext : (List ℕ → Option ℕ) → List (List ℕ) → List (List ℕ) → Option ℕ → Type 0
IsNext read [] new found = found ≡ None
IsNext read (word ∷ more) new found = (new ≡ more) × (found ≡ read word)

abbrev pub IsNextNumber : List (List ℕ) → List (List ℕ) → Option ℕ → Type 0
IsNextNumber = IsNext number

abbrev pub IsNextId : List (List ℕ) → List (List ℕ) → Option ℕ → Type 0
IsNextId = IsNext job_id
