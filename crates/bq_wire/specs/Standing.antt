-- The texts that a reader represents: the bytes of a request that is not complete.
use Rattle.std.specs.Prelude.{ℕ, ◌≡◌, ◌<◌, ◌≤◌, ◌+◌, ◌-◌, false, MatchBool, List, [], ◌++◌, length, take}
use Rattle.std.specs.Prelude.{Option, Some, None, IfSome, if◌then◌else◌}
use Rattle.bq_job.specs.reading.Line.{first_line}
use Rattle.bq_job.specs.reading.LineRead as line_read
use Rattle.bq_job.specs.reading.LineRead.{longest_line}
use Rattle.bq_job.specs.reading.Reading.{IsUnit, BeginsNoUnit, is_quit}
use Rattle.bq_job.specs.declared.request.Request.{Request}
use Rattle.bq_wire.specs.Asked.{put_line_of}
use Rattle.bq_wire.specs.LineEnds.{last_is_cr}
use Rattle.bq_wire.specs.PutBodies.{IsBodySoFar, HasBodyRoom}
use Rattle.bq_wire.specs.declared.put_body.PutBody.{PutBody}
use Rattle.bq_wire.specs.declared.reader.ReaderPlace.{ReaderPlace}
use Rattle.bq_wire.specs.declared.reader.ReaderPlace.TheVariants.{InLine, InLongLine, InBody, Over}
use Rattle.bq_wire.specs.declared.reader.ReaderState.{ReaderState}
use Rattle.bq_wire.specs.declared.reader.Taken.{Taken}

-- the length of an unfinished command line without a CR at its end, which may be that of its CR LF
abbrev pub length_beside_cr : List ℕ → ℕ
length_beside_cr text = length text - (if last_is_cr false text then 1 else 0)

-- the text is the command line of this put with its CR LF, and as much of its body as has arrived
pub record IsPutBegun (body : PutBody) (text : List ℕ) : Type 0 where
  pub line : List ℕ
  pub after : List ℕ
  pub first_line_is : first_line text ≡ Some (line, after)
  pub read_is : line_read.read_line line ≡ line_read.PutWaits (put_line_of body.put)
  pub so_far : IsBodySoFar body after
  pub less : length after < body.put.bytes + 2

-- In a command line, the kept text, which has no CR LF. In one that is too long, any text without
-- CR LF that is too long for a command line. In a body, the command line of the put and fewer bytes
-- than it wants. After a quit, none.
abbrev pub StandsAt : ReaderState → ReaderPlace → List ℕ → Type 0
StandsAt state InLine text = (text ≡ state.kept) × (first_line text ≡ None)
StandsAt state (InLongLine after_cr) text =
    (state.kept ≡ []) × (first_line text ≡ None) × (last_is_cr false text ≡ after_cr) × (longest_line < length_beside_cr text)
StandsAt state (InBody body) text = (state.kept ≡ []) × IsPutBegun body text
StandsAt state Over text = ⊥

abbrev pub Stands : ReaderState → List ℕ → Type 0
Stands state text = StandsAt state state.place text

-- how many bytes of a put have not arrived: of its body, and of the two bytes after it
abbrev pub missing_at : ReaderPlace → ℕ
missing_at (InBody body) = body.put.bytes + 2 - body.taken
missing_at _ = 0

-- a piece that is no longer than what is missing is taken whole
abbrev pub TakesMissing : ReaderPlace → List ℕ → ℕ → Type 0
TakesMissing place piece taken = length piece ≤ missing_at place → taken ≡ length piece

-- a quit was read, and the reader was not restarted since
abbrev pub IsOver : ReaderState → Type 0
IsOver state = state.place ≡ Over

-- a body in progress is not complete, and has room for the rest
abbrev pub IsSoundPlace : ReaderPlace → Type 0
IsSoundPlace InLine = Unit {0}
IsSoundPlace (InLongLine after_cr) = Unit {0}
IsSoundPlace (InBody body) = HasBodyRoom body × (body.taken < body.put.bytes + 2)
IsSoundPlace Over = Unit {0}

abbrev pub IsSoundReader : ReaderState → Type 0
IsSoundReader state = IsSoundPlace state.place

-- no request is complete: the whole piece was taken, and the reader represents the text followed by
-- it
pub record Waits (new : ReaderState) (text piece : List ℕ) (taken : ℕ) : Type 0 where
  pub all : taken ≡ length piece
  pub none : BeginsNoUnit new.max_job_size (text ++ piece)
  pub stands : Stands new (text ++ piece)

-- the text and the bytes taken are one request; the reader then represents the empty text, or none
-- after a quit
pub record HandsRequest (new : ReaderState) (text piece : List ℕ) (taken : ℕ) (request : Request) : Type 0 where
  pub unit : IsUnit new.max_job_size (text ++ take taken piece) request
  pub next : MatchBool (is_quit request) (IsOver new) (Stands new [])

-- the request in `place`, if the bytes taken complete one
abbrev pub request_in : Taken → Request → Option Request
request_in taken place = if taken.is_request then Some place else None

abbrev pub FeedsText : ReaderState → List ℕ → List ℕ → ℕ → Option Request → Type 0
FeedsText new text piece taken None = Waits new text piece taken
FeedsText new text piece taken (Some request) = HandsRequest new text piece taken request

-- a piece was fed to a reader that represented one of these texts
abbrev pub Feeds : (List ℕ → Type 0) → ReaderState → List ℕ → ℕ → Option Request → Type 0
Feeds stood new piece taken request = (text : List ℕ) → stood text → FeedsText new text piece taken request

-- this many bytes of a piece were taken: some if there is a request, and the reader is sound
abbrev pub IsFed : ReaderState → ReaderState → List ℕ → ℕ → Option Request → Type 0
IsFed old new piece taken request =
    IsSoundReader new × (taken ≤ length piece) × IfSome request (λ asked. 0 < taken) × (new.max_job_size ≡ old.max_job_size)

-- the text is one command line with its CR LF, which requests this
pub record IsLineAsking (asked : line_read.LineRead) (text : List ℕ) : Type 0 where
  pub line : List ℕ
  pub first_line_is : first_line text ≡ Some (line, [])
  pub read_is : line_read.read_line line ≡ asked

-- all but the last byte
abbrev pub but_last : List ℕ → List ℕ
but_last bytes = take (length bytes - 1) bytes

-- more bytes of a command line are kept, or it is too long
abbrev pub Keeps : List ℕ → List ℕ → ReaderPlace → List ℕ → Type 0
Keeps old new InLine piece = new ≡ old ++ piece
Keeps old new (InLongLine after_cr) piece =
    (new ≡ []) × (last_is_cr false (old ++ piece) ≡ after_cr) × (longest_line < length_beside_cr (old ++ piece))
Keeps old new _ piece = ⊥
