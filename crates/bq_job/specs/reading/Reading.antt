-- The reading of a text into requests. It depends on the largest body that a job may have.
use Rattle.std.specs.Prelude.{ℕ, ◌≡◌, ◌+◌, ◌⊎◌, Bool, true, false, ◌&&◌, not, nat_lt, IsTrue, MatchBool}
use Rattle.std.specs.Prelude.{MatchOption, List, [], ◌∷◌, ◌++◌, length, take, drop, if◌then◌else◌}
use Rattle.bq_job.specs.declared.refusal.Refusal.TheVariants.{ExpectedCrlf, JobTooBig, OutOfMemory}
use Rattle.bq_job.specs.{declared.request.Request.{Request, TheVariants.{Put, Quit, Refused}}, reading.Line.first_line}
use Rattle.bq_job.specs.reading.{Line.line_end, LineRead.{LineRead, PutLine, PutWaits, Whole, read_line}}
use Rattle.bq_job.specs.reading.TubeName.{is_same_name}

-- The request of a put, given its body and the two bytes after it, which must be CR LF. A time to
-- run of 0 is kept as written.
abbrev pub put_with_body : PutLine → List ℕ → Request
put_with_body put bytes =
    if is_same_name (drop put.bytes bytes) line_end
    then Put put.pri put.delay put.ttr (take put.bytes bytes)
    else Refused ExpectedCrlf

-- A body that is too big is rejected. Otherwise the allocation for it may fail, whatever its bytes
-- are; this is the only choice in a reading.
abbrev pub IsPutRequest : ℕ → PutLine → List ℕ → Request → Type 0
IsPutRequest max_job_size put bytes request =
    MatchBool (nat_lt max_job_size put.bytes) (request ≡ Refused JobTooBig)
    ((request ≡ Refused OutOfMemory) ⊎ (request ≡ put_with_body put bytes))

-- A unit consists of a command line with its CR LF and what belongs to it: nothing if the line is a
-- complete request, the body and two more bytes if it begins a put.
abbrev pub IsUnitAfter : ℕ → LineRead → List ℕ → Request → Type 0
IsUnitAfter max_job_size (Whole asked) after request = (after ≡ []) × (request ≡ asked)
IsUnitAfter max_job_size (PutWaits put) after request = (length after ≡ put.bytes + 2) × IsPutRequest max_job_size put after request

-- the bytes are exactly one request, this one
abbrev pub IsUnit : ℕ → List ℕ → Request → Type 0
IsUnit max_job_size bytes request = MatchOption (first_line bytes) ⊥ (λ l. IsUnitAfter max_job_size (read_line l.0) l.1 request)

-- the bytes are exactly these requests, one after another
abbrev pub AreUnits : ℕ → List ℕ → List Request → Type 0
AreUnits max_job_size bytes [] = bytes ≡ []
AreUnits max_job_size bytes (request ∷ requests) =
    (first more : List ℕ) × (bytes ≡ first ++ more) × IsUnit max_job_size first request × AreUnits max_job_size more requests

-- no first part of the bytes is a complete request
abbrev pub BeginsNoUnit : ℕ → List ℕ → Type 0
BeginsNoUnit max_job_size bytes = (first more : List ℕ) (request : Request) → bytes ≡ first ++ more → IsUnit max_job_size first request → ⊥

abbrev pub is_quit : Request → Bool
is_quit Quit = true
is_quit _ = false

abbrev pub ends_by_quit : List Request → Bool
ends_by_quit [] = false
ends_by_quit (request ∷ []) = is_quit request
ends_by_quit (request ∷ next ∷ requests) = ends_by_quit (next ∷ requests)

-- only the last request may be quit
abbrev pub quits_last : List Request → Bool
quits_last [] = true
quits_last (request ∷ []) = true
quits_last (request ∷ next ∷ requests) = not (is_quit request) && quits_last (next ∷ requests)

-- A text is read into these requests and this rest. It consists of the units of the requests and
-- then the rest, and no first part of the rest is a unit. Nothing is read after a quit, so any rest
-- may follow one.
pub record Reads (max_job_size : ℕ) (text : List ℕ) (requests : List Request) (rest : List ℕ) : Type 0 where
  pub units : List ℕ
  pub text_is : text ≡ units ++ rest
  pub are_units : AreUnits max_job_size units requests
  pub last_quits : IsTrue (quits_last requests)
  pub ended : IsTrue (ends_by_quit requests) ⊎ BeginsNoUnit max_job_size rest
