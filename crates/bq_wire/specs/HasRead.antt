-- What a reader has read since it was made or last restarted.
use Rattle.std.specs.Prelude.{ℕ, ◌≡◌, ◌⊎◌, false, IsTrue, List, [], ◌++◌, take, Option, option_to_list}
use Rattle.bq_job.specs.reading.Reading.{AreUnits, quits_last, ends_by_quit}
use Rattle.bq_job.specs.declared.request.Request.{Request}
use Rattle.bq_wire.specs.Standing.{Stands, IsOver}
use Rattle.bq_wire.specs.declared.reader.ReaderState.{ReaderState}

-- The bytes taken are the units of the requests returned, followed by a text that the reader
-- represents. After a quit it represents none, and no further byte was taken.
pub record HasRead (reader : ReaderState) (taken : List ℕ) (requests : List Request) : Type 0 where
  pub units : List ℕ
  pub rest : List ℕ
  pub taken_is : taken ≡ units ++ rest
  pub are_units : AreUnits reader.max_job_size units requests
  pub last_quits : IsTrue (quits_last requests)
  pub goes_on : (IsTrue (ends_by_quit requests) × IsOver reader × (rest ≡ [])) ⊎ ((ends_by_quit requests ≡ false) × Stands reader rest)

-- this many bytes of a piece were taken, and possibly a request was returned
abbrev pub ReadsOn : ReaderState → ReaderState → List ℕ → ℕ → Option Request → Type 0
ReadsOn old new piece count request =
    (taken : List ℕ) (requests : List Request) → HasRead old taken requests
    → HasRead new (taken ++ take count piece) (requests ++ option_to_list request)

-- all of an offered text was taken, except what comes after a quit
pub record HasReadText (reader : ReaderState) (text : List ℕ) (requests : List Request) : Type 0 where
  pub taken : List ℕ
  pub more : List ℕ
  pub text_is : text ≡ taken ++ more
  pub read : HasRead reader taken requests
  pub all : (more ≡ []) ⊎ IsOver reader
