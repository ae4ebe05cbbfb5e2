-- An open connection by its machine's stage: the steps that were submitted for it, and the answers
-- that were given for writing.
use Rattle.std.proofs.Common.{◌≡◌, ℕ, Bool, true, List, [], ◌∷◌, ◌++◌, IsTrue, refl, sym, ap, ◌∙◌, ◌⊎◌, inl, inr}
use Rattle.std.proofs.Common.{append-nil, append_assoc, arith}
use Rattle.std.proofs.lemmas.Bool.{cases_Bool}
use Rattle.std.proofs.lemmas.Grind.{common_steps}
use Rattle.bq_job.specs.declared.line_end.LineEnd.{LineEnd}
use Rattle.bq_job.specs.declared.request.Request.{Request}
use Rattle.bq_job.specs.declared.step.Step.{Step}
use Rattle.bq_job.specs.promise.LineSteps.{IsOverBy, ends_by_wait, IsStepsOfLine, LineHeard, MayTellEnd, heard}
use Rattle.bq_job.specs.promise.SoFar.{IsStepsSoFar}
use Rattle.bq_job.specs.reading.Reading.{AreUnits, quits_last}
use Rattle.bq_job.specs.declared.line_end.LineEnd.TheVariants as ends
use Rattle.bq_job.specs.declared.step.Step.TheVariants as steps
use Rattle.bq_seat.specs.Past.{Past}
use Rattle.bq_seat.specs.SeatStands.{IsOpen, StandsFor, StandsInStage, end_if}
use Rattle.bq_seat.specs.Served.{IsServedToClose, seen_line}
use Rattle.bq_seat.specs.declared.machine.SeatMachine.{SeatMachine}
use Rattle.bq_seat.specs.declared.machine.Stage.{Stage}
use Rattle.bq_wire.specs.declared.reader.ReaderState.{ReaderState}
use Rattle.bq_seat.specs.declared.machine.Stage.TheVariants as stages
use Rattle.bq_seat.proofs.StepLemmas.{BeginsNoUnit-[], Reads-begun}

-- ---- the requests that were asked are those of a first part of the bytes

units_begin : (size : ℕ) (bytes : List ℕ) (asked more : List Request) → AreUnits size bytes (asked ++ more)
    → (first rest : List ℕ) × (bytes ≡ first ++ rest) × AreUnits size first asked
units_begin size bytes [] more u = ([], bytes, refl, refl)
units_begin size bytes (r ∷ asked) more u =
    let b = units_begin size u.1 asked more u.4 in (
      u.0 ++ b.0,
      b.1,
      u.2 ∙ ap (λ (xs : List ℕ). u.0 ++ xs) b.2 ∙ sym (append_assoc u.0 b.0 b.1),
      (u.0, b.0, refl, u.3, b.3),
    )

quits_begin : (asked more : List Request) → IsTrue (quits_last (asked ++ more)) → IsTrue (quits_last asked)
quits_begin [] more q = refl
quits_begin (r ∷ []) more q = refl
quits_begin (r ∷ n ∷ asked) more q = grind (arith, common_steps, quits_begin (n ∷ asked) more)

-- Of the requests that were read, all were asked, or a first part.
asked_of : (line : LineHeard) (end : LineEnd) (read asked : List Request) → IsOverBy line end read asked
    → (more : List Request) × (read ≡ asked ++ more)
asked_of line end read asked o = grind (arith, common_steps, append-nil)

-- ---- the steps of a line

-- the steps are a beginning of those of a connection that has ended
steps_of_served : (size : ℕ) (line : LineHeard) (end : LineEnd) (taken more : List Step) → IsStepsOfLine size line end (taken ++ more)
    → IsStepsSoFar size line taken
steps_of_served size line end taken more l =
    let a = asked_of line end l.requests l.asked l.is_over in
    let b = units_begin size l.reads.units l.asked a.0 (rw a.1 at l.reads.are_units) in
    record {
      first = b.0;
      rest = b.1 ++ l.rest;
      asked = l.asked;
      end_steps = l.end_steps;
      more = more;
      read_is = l.reads.text_is ∙ ap (λ (xs : List ℕ). xs ++ l.rest) b.2 ∙ append_assoc b.0 b.1 l.rest;
      reads = record {
        units = b.0;
        text_is = sym (append-nil b.0);
        are_units = b.3;
        last_quits = quits_begin l.asked a.0 (rw a.1 at l.reads.last_quits);
        ended = inr (BeginsNoUnit-[] size);
      };
      ends = l.ends;
      begins = sym l.steps_are;
    }

ends_told : (line : LineHeard) (asked : List Request) (told : Bool)
    → (told ≡ true → IsTrue line.ended) → (told ≡ true → IsTrue (ends_by_wait asked))
    → MayTellEnd line asked (end_if told)
ends_told line asked told ended waits = grind (arith, common_steps, cases_Bool)

-- the connection is open
steps_of_open : (reader : ReaderState) (kept : List ℕ) (told : Bool) (outstanding : ℕ) (p : Past) (written : List ℕ)
    → IsOpen reader kept told outstanding p → IsStepsSoFar reader.max_job_size (heard (seen_line written p)) p.steps
steps_of_open reader kept told outstanding p written o =
    let r = o.read in
    let s = o.stepped in
    record {
      first = r.units;
      rest = r.begun ++ kept;
      asked = o.asked;
      end_steps = end_if told;
      more = steps.Close ∷ [];
      read_is = r.bytes_are;
      reads = Reads-begun reader.max_job_size r.units r.units [] o.asked (sym (append-nil r.units)) r.are_units s.no_quit
          (BeginsNoUnit-[] reader.max_job_size);
      ends = ends_told (heard (seen_line written p)) o.asked told (λ t. s.ended_is ∙ t) (λ t. (s.told_well t).0);
      begins = ap (λ (xs : List Step). xs ++ steps.Close ∷ []) (sym s.steps_are);
    }

pub same_steps : (xs : List Step) → xs ≡ xs ++ []
same_steps xs = sym (append-nil xs)

-- What a stage says of its connection: it is open, or it was served until its close, which these
-- steps may still lack.
abbrev IsServedBy : LineEnd → List Step → ReaderState → Past → Type 0
IsServedBy end more reader p =
    ((written : List ℕ) → IsStepsOfLine reader.max_job_size (heard (seen_line written p)) end (p.steps ++ more)) × (p.written ≡ p.mail)

closed : (reader : ReaderState) {end : LineEnd} {p : Past} → ((written : List ℕ) → IsServedToClose reader.max_job_size written end p)
    → (end : LineEnd) × (more : List Step) × IsServedBy end more reader p
closed reader {end = end} {p = p} s = (end, [], ((λ written. rw (append-nil p.steps) (s written).line), (s []).handed_out))

line_in : (stage : Stage) (reader : ReaderState) (kept : List ℕ) (told : Bool) (p : Past) → StandsInStage stage reader kept told p
    → ((outstanding : ℕ) × IsOpen reader kept told outstanding p) ⊎ ((end : LineEnd) × (more : List Step) × IsServedBy end more reader p)
line_in stages.Between reader kept told p s = inr (closed reader (λ written. (s.1 written).to_close))
line_in stages.Connecting reader kept told p s = inl (0, s.0)
line_in stages.Reading reader kept told p s = inl (0, s.0)
line_in (stages.Asking waits) reader kept told p s = inl (1, s.0.0)
line_in (stages.Polling waits) reader kept told p s = inl (1, s.0)
line_in stages.ReadingOn reader kept told p s = inl (1, s.0.0)
line_in stages.TellingEnd reader kept told p s = inl (1, s.0.0)
line_in stages.Writing reader kept told p s = inl (0, s.0)
line_in stages.AskingQuit reader kept told p s =
    inr (ends.Quit, steps.Close ∷ [], ((λ written. (s.1.served written).line), (s.1.served []).handed_out))
line_in (stages.Closing end) reader kept told p s = inr (closed reader s.served)
line_in (stages.Leaving end) reader kept told p s = inr (closed reader s.served)

-- These two are what a machine's stage says, for the crates above the seat.
pub steps_stand : (m : SeatMachine) (p : Past) (written : List ℕ) → StandsFor m p
    → IsStepsSoFar m.reader.max_job_size (heard (seen_line written p)) p.steps
unfolding StandsFor
steps_stand m p written s = elim (line_in m.stage m.reader m.kept m.end_told p s.0) [
  | inl o ↦ steps_of_open m.reader m.kept m.end_told o.0 p written o.1
  | inr l ↦ steps_of_served m.reader.max_job_size (heard (seen_line written p)) l.0 p.steps l.1 (l.2.0 written)
]

pub handed_stand : (m : SeatMachine) (p : Past) → StandsFor m p → p.written ≡ p.mail
unfolding StandsFor
handed_stand m p s = grind (arith, line_in m.stage m.reader m.kept m.end_told p s.0)
