-- What a client's connection does: its steps, and the bytes that the client receives.
use Rattle.std.specs.Prelude.{ℕ, Bool, true, false, ◌≡◌, ◌≢◌, ◌⊎◌, ◌+◌, not, IsTrue, List, []}
use Rattle.std.specs.Prelude.{◌∷◌, ◌++◌, map, length, flat_map, Option, Some}
use Rattle.bq_job.specs.{reading.Reading.{Reads, ends_by_quit}, texts.AnswerText.answer_text, Types.{Answer, LineEnd}}
use Rattle.bq_job.specs.Types.{LineFault, Request, Step}
use Rattle.bq_job.specs.declared.line_end.LineEnd.TheVariants as ends
use Rattle.bq_job.specs.declared.line_end.LineFault.TheVariants as faults
use Rattle.bq_job.specs.declared.request.Request.TheVariants as requests
use Rattle.bq_job.specs.declared.step.Step.TheVariants as steps

-- what the connection itself reports: the bytes read and written, whether a read reported the end
-- of the input, and the first fault that a read or a write reported
pub record LineSeen : Type 0 where
  pub read : List ℕ
  pub written : List ℕ
  pub ended : Bool
  pub fault : Option LineFault

-- the input of a connection: all of that except the bytes written
pub record LineHeard : Type 0 where
  pub read : List ℕ
  pub ended : Bool
  pub fault : Option LineFault

abbrev pub heard : LineSeen → LineHeard
heard line = record { read = line.read; ended = line.ended; fault = line.fault }

abbrev pub is_waiting_request : Request → Bool
is_waiting_request requests.Reserve = true
is_waiting_request (requests.ReserveWithTimeout seconds) = true
is_waiting_request _ = false

-- whether the last request is one that may wait
abbrev pub ends_by_wait : List Request → Bool
ends_by_wait [] = false
ends_by_wait (request ∷ []) = is_waiting_request request
ends_by_wait (request ∷ next ∷ requests) = ends_by_wait (next ∷ requests)

-- Which of the requests that were read were submitted. A connection that ended with a quit has it
-- as its last request. A connection that ended with the end of its input has no quit, and reports
-- the end. A connection that ended with a read fault reports it, and everything read before was
-- submitted. A connection that ended with a write fault reports it, and a first part of what was
-- read was submitted.
abbrev pub IsOverBy : LineHeard → LineEnd → List Request → List Request → Type 0
IsOverBy line ends.Quit read asked = (asked ≡ read) × IsTrue (ends_by_quit read)
IsOverBy line ends.EndOfInput read asked = (asked ≡ read) × IsTrue (not (ends_by_quit read)) × IsTrue line.ended
IsOverBy line ends.ReadFault read asked = (asked ≡ read) × IsTrue (not (ends_by_quit read)) × (line.fault ≡ Some faults.Read)
IsOverBy line ends.WriteFault read asked =
    (more : List Request) × (read ≡ asked ++ more) × (asked ≢ []) × IsTrue (not (ends_by_quit asked)) × (line.fault ≡ Some faults.Write)

-- An end may be submitted just before the close, if the last request may wait and the connection
-- reports the end of its input.
abbrev pub MayTellEnd : LineHeard → List Request → List Step → Type 0
MayTellEnd line asked end_steps = (end_steps ≡ []) ⊎ ((end_steps ≡ steps.End ∷ []) × IsTrue (ends_by_wait asked) × IsTrue line.ended)

-- The steps of a connection that has ended: it connects, submits its requests in order, and is
-- closed.
pub record IsStepsOfLine (max_job_size : ℕ) (line : LineHeard) (over : LineEnd) (taken : List Step) : Type 0 where
  pub requests : List Request
  pub rest : List ℕ
  pub asked : List Request
  pub end_steps : List Step
  pub reads : Reads max_job_size line.read requests rest
  pub is_over : IsOverBy line over requests asked
  pub ends : MayTellEnd line asked end_steps
  pub steps_are : taken ≡ steps.Connect ∷ [] ++ map steps.Ask asked ++ end_steps ++ steps.Close ∷ []

-- the texts of the answers, joined
abbrev pub answers_text : List Answer → List ℕ
answers_text answers = flat_map answer_text answers

-- the bytes are a first part of the text, possibly all or none of it
abbrev pub IsBeginning : List ℕ → List ℕ → Type 0
IsBeginning bytes text = (rest : List ℕ) × (text ≡ bytes ++ rest)

-- all of these answers except the last, and a first part of that one
pub record IsCutOff (answers : List Answer) (written : List ℕ) : Type 0 where
  pub first : List Answer
  pub last : Answer
  pub cut : List ℕ
  pub answers_are : answers ≡ first ++ last ∷ []
  pub is_beginning : IsBeginning cut (answer_text last)
  pub written_is : written ≡ answers_text first ++ cut

-- a request that is answered, now or later
abbrev pub answers_wanted : Request → ℕ
answers_wanted requests.Quit = 0
answers_wanted _ = 1

-- how many answers these steps want
abbrev pub wanted : List Step → ℕ
wanted [] = 0
wanted (steps.Ask request ∷ taken) = answers_wanted request + wanted taken
wanted (step ∷ taken) = wanted taken

-- how many requests there are, not counting a quit
abbrev pub answered_count : List Request → ℕ
answered_count asked = wanted (map steps.Ask asked)

-- Every request except a quit has its answer; the last one, whose request may wait, came too late
-- to be written.
pub record IsLastUnwritten (asked : List Request) (answers : List Answer) (written : List ℕ) : Type 0 where
  pub first : List Answer
  pub last : Answer
  pub waits : IsTrue (ends_by_wait asked)
  pub all : length answers ≡ answered_count asked
  pub answers_are : answers ≡ first ++ last ∷ []
  pub written_is : written ≡ answers_text first

-- What is written to a connection that has ended, of the answers that it is owed: all of them, to
-- the byte. After a write fault, all except the last, and a first part of that one. After a read
-- fault, the answer to a last request that may wait can be missing.
abbrev pub IsWritten : LineEnd → List Request → List Answer → List ℕ → Type 0
IsWritten ends.Quit asked answers written = written ≡ answers_text answers
IsWritten ends.EndOfInput asked answers written = written ≡ answers_text answers
IsWritten ends.ReadFault asked answers written = (written ≡ answers_text answers) ⊎ IsLastUnwritten asked answers written
IsWritten ends.WriteFault asked answers written = IsCutOff answers written

-- Each request except a quit was answered. After a read fault, a last request that may wait can be
-- unanswered.
abbrev pub AreAllAnswered : LineEnd → List Request → List Answer → Type 0
AreAllAnswered ends.Quit asked answers = length answers ≡ answered_count asked
AreAllAnswered ends.EndOfInput asked answers = length answers ≡ answered_count asked
AreAllAnswered ends.WriteFault asked answers = length answers ≡ answered_count asked
AreAllAnswered ends.ReadFault asked answers =
    (length answers ≡ answered_count asked)
    ⊎ (IsTrue (ends_by_wait asked) × (length answers + 1 ≡ answered_count asked))
